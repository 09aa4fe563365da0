use Prim.Native.Nat.{◌≤◌, ◌+◌}
use lib.ListN.{get_or}
use Rattle.list_laws.proofs.Ranges.{shifted}
use Rattle.list_laws.specs.Kept.{Filled}
use Rattle.tableau_plan.specs.Parts.{slot_of}
use Rattle.tableau_plan.proofs.place_terms.Given as goal

abbrev pub invariant-loop-c : goal.invariant-loop-c
invariant-loop-c l = (l.c ≤ 4) × Filled 0 l.initial.p l.p l.at (l.at + l.c) (shifted l.at (λ y. slot_of l.copy (get_or l.initial.p (l.from + y) 0)))
