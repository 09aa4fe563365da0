use mathlib.Core.Path.{subst, sym}
use Prim.Native.Nat.{min, ◌+◌}
use Rattle.sheet_format.specs.Limits.{most_atoms}
use Rattle.tableau_layout.specs.Layout.{sizes_at}
use Rattle.query_join.specs.Joins.{Given}
use Rattle.tableau_parts.specs.Walks.{GivesAtBy}
use Rattle.tableau_parts.proofs.Laws.{given-shown}
use lib.ListN.{get_or}
use borrow.Author.Rules.{rules}
use Rattle.tableau_answers.proofs.gives_at_by.Goals as goal

pub returns-then-shows : goal.returns-then-shows
returns-then-shows c = λ size.
    let a = c.args in
    let n = min (get_or a.p.now (sizes_at + a.b) 0) most_atoms in
    let k = c.block_at-blk in
    subst (λ b. GivesAtBy b a.p.now a.b a.facts.now a.row) (sym c.if-shows.true)
    (subst (λ l. Given l n a.facts.now a.row) (k.ensures (search rules) size) (given-shown k.result n a.facts.now a.row a.at (c.shows.ensures c.if-shows.true)))
