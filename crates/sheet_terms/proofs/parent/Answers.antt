-- `sheet_terms::parent` meets its contract.
use mathlib.Core.Path.{◌≡◌, sym, ap, ◌∙◌}
use Prim.Native.Nat.{ℕ, suc, ◌-◌}
use native.Mathlib.Omega.{arith}
use Rattle.sheet_format.specs.Table.{Relation, relation, table_in}
use Rattle.sheet_terms.proofs.Laws.{none-at, suc_of, parent-at}
use borrow.Author.Rules.{rules}
use Rattle.sheet_terms.proofs.parent.Goals as goal

pub returns-then-number-eq0 : goal.returns-then-number-eq0
returns-then-number-eq0 c = let a = c.args in sym (ap (λ (r : Relation). r.parent) (none-at (table_in a.table.now) a.number c.if-number-eq0.true))

pub returns : goal.returns
returns c = let a = c.args in
    let (n, e) = suc_of a.number c.if-number-eq0.false in
    let p : suc n - 1 ≡ n = omega arith in
    (rw (e, p) at (c.number_in.ensures (omega arith))) ∙ parent-at a.table.now n ∙ ap (λ m. (relation (table_in a.table.now) m).parent) (sym e)
