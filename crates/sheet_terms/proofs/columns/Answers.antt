-- `sheet_terms::columns` meets its contract.
use mathlib.Core.Path.{◌≡◌, sym, ap, ◌∙◌}
use Prim.Native.Nat.{ℕ, suc, ◌-◌, min}
use native.Mathlib.Omega.{arith}
use lib.IntN.{pos}
use Rattle.list_laws.proofs.Words.{back}
use Rattle.sheet_format.specs.Limits.{most_columns}
use Rattle.sheet_format.specs.Table.{columns_of, table_in}
use Rattle.sheet_terms.proofs.Laws.{no-columns, numbered, columns-at}
use borrow.Author.Rules.{rules}
use Rattle.sheet_terms.proofs.columns.Goals as goal

pub returns-then-relation-lt1 : goal.returns-then-relation-lt1
returns-then-relation-lt1 c = no-columns (table_in c.args.table.now) c.args.relation (rw (back c.ranges.relation) at c.if-relation-lt1.true)

pub returns : goal.returns
returns c = let (n, e) = (numbered c.args.relation (rw (back c.ranges.relation) at c.if-relation-lt1.false)) in
    let p : suc n - 1 ≡ n = omega arith in
    c.cut.ensures
    ∙ ap (min most_columns) (rw (back c.ranges.relation, e, p) at (c.number_in.ensures (omega arith)))
    ∙ columns-at c.args.table.now n
    ∙ ap (columns_of (table_in c.args.table.now)) (sym e)
