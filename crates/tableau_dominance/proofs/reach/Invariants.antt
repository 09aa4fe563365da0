use Rattle.std.proofs.Common.{ℕ, ◌<◌}
use Rattle.tableau_parts.specs.Walks.{FormedPlan}
use Rattle.tableau_dominance.specs.Dominated.{DominatedFact}
use Rattle.tableau_dominance.proofs.reach.Given as goal

abbrev pub invariant-loop-i : goal.invariant-loop-i
invariant-loop-i state = FormedPlan state.p → (l : ℕ) → l < state.i → DominatedFact state.p state.facts state.k state.relation state.place state.a state.b state.end l
