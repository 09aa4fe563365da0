use native.Mathlib.Omega.{arith}
use borrow.Author.Count.{below_more}
use Rattle.tableau_dominance.specs.Dominated.{DominatedFact}
use Rattle.tableau_dominance.proofs.reach.Goals as goal

pub loop-i-preserved : goal.loop-i-preserved
loop-i-preserved c = let l = c.loop-i in
    let a = c.args in
    let n = c.nearer-end in
    λ ready.
    below_more (DominatedFact a.p.now a.facts.now a.k a.relation a.place a.a a.b n.result) l.i
    (λ i lt e from to. l.invariant ready i lt e from (let less = n.ensures.upper_bound in omega arith)) (n.ensures.dominated_fact ready)
