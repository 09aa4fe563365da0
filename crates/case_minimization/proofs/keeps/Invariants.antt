use Rattle.tableau_parts.specs.Walks.{FormedPlan, GivenTo}
use Rattle.case_minimization.proofs.keeps.Given as goal

abbrev pub invariant-loop-r : goal.invariant-loop-r
invariant-loop-r l = FormedPlan l.p → GivenTo l.p l.facts l.r
