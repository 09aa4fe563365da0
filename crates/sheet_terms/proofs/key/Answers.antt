-- `sheet_terms::key` meets its contract.
use mathlib.Core.Path.{◌≡◌, sym, ap, ◌∙◌, subst}
use Prim.Native.Nat.{ℕ, suc, ◌-◌, ◌≤◌, min}
use native.Mathlib.Omega.{arith}
use Rattle.sheet_format.specs.Limits.{most_columns}
use Rattle.sheet_format.specs.Table.{Relation, relation, table_in}
use Rattle.sheet_terms.proofs.Laws.{none-at, suc_of, key-at, key-most}
use borrow.Author.Rules.{rules}
use Rattle.sheet_terms.proofs.key.Goals as goal

pub returns-then-number-eq0 : goal.returns-then-number-eq0
returns-then-number-eq0 c = let a = c.args in (sym (ap (λ (r : Relation). r.key) (none-at (table_in a.table.now) a.number c.if-number-eq0.true)), omega arith)

pub returns : goal.returns
returns c = let a = c.args in
    let (n, e) = suc_of a.number c.if-number-eq0.false in
    let p : suc n - 1 ≡ n = omega arith in
    let q = c.cut.ensures ∙ ap (min most_columns) (rw (e, p) at (c.number_in.ensures (omega arith))) ∙ key-at a.table.now n ∙ ap (λ m. (relation (table_in a.table.now) m).key) (sym e) in
    (q, subst (λ k. k ≤ most_columns) (sym q) (key-most a.table.now a.number))
