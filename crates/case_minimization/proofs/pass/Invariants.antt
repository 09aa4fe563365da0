use mathlib.Core.Path.{◌≡◌}
use lib.ListN.{take, length}
use Rattle.tableau_layout.specs.Layout.{tableau_numbers}
use Rattle.tableau_parts.specs.Walks.{FormedPlan}
use Rattle.case_minimization.specs.Minimization.{IsCase, without}
use Rattle.case_minimization.specs.Parts.{TriedFact}
use Prim.Native.Nat.{◌≤◌, ◌<◌, ◌-◌, ◌*◌}
use Rattle.case_minimization.proofs.pass.Given as goal

abbrev pub invariant-loop-i : goal.invariant-loop-i
invariant-loop-i l = (l.i ≤ l.m)
    × (l.m ≤ l.n)
    × (length l.facts ≡ length l.initial.facts)
    × (length l.room ≡ tableau_numbers)
    × (l.i < l.m → take ((l.m - 1) * 5) l.room ≡ without (take (l.m * 5) l.facts) l.i)
    × (FormedPlan l.p → IsCase l.p (take (l.n * 5) l.initial.facts) → TriedFact l.p (take (l.n * 5) l.initial.facts) l.n (take (l.m * 5) l.facts) l.m l.n l.i)

abbrev pub decreases-loop-i : goal.decreases-loop-i
decreases-loop-i l = l.m - l.i
