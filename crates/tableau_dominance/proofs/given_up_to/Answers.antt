use native.Mathlib.Omega.{arith}
use mathlib.Core.Path.{◌≡◌}
use lib.ListN.{length}
use Rattle.tableau_dominance.proofs.Laws.{given-to-end}
use borrow.Author.Rules.{rules}
use Rattle.tableau_dominance.proofs.given_up_to.Goals as goal

pub returns : goal.returns
returns c = let a = c.args in
    let blk = c.block_at-blk in
    let n = c.size_at-n in
    let at = c.in_ok-at in
    let b = c.in_ok-b in
    let long : length a.row ≡ 4 = search rules in
    λ ready.
    let below = b.ensures ready in
    given-to-end a.p.now a.facts.now a.row blk.result n.result a.k at.at b.b c.reach.result (blk.ensures (search rules) ready.size) (n.ensures (search rules)) (omega arith) long
    below.0 at.ensures below.1 (c.reach.ensures ready)
