use lib.ListN.{take, length}
use Rattle.tableau_parts.specs.Walks.{FormedPlan}
use Rattle.case_minimization.specs.Minimization.{IsCase}
use Rattle.case_minimization.specs.Parts.{TriedFact}
use mathlib.Core.Path.{◌≡◌}
use Prim.Native.Nat.{◌≤◌, ◌*◌}
use Rattle.case_minimization.proofs.shrink.Given as goal

abbrev pub invariant-loop-m : goal.invariant-loop-m
invariant-loop-m l = (l.m ≤ l.n) × (l.m ≤ l.before) × (length l.facts ≡ length l.initial.facts) × (FormedPlan l.p → IsCase l.p (take (l.n * 5) l.initial.facts) → TriedFact l.p (take (l.n * 5) l.initial.facts) l.n (take (l.m * 5) l.facts) l.m l.before l.m)

abbrev pub decreases-loop-m : goal.decreases-loop-m
decreases-loop-m l = l.before
