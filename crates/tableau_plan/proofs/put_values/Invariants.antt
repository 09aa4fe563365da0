use Prim.Native.Nat.{◌≤◌, ◌+◌, ◌*◌}
use lib.ListN.{get_or}
use lib.IntN.{pos}
use Rattle.list_laws.proofs.Ranges.{shifted}
use Rattle.list_laws.specs.Kept.{Filled}
use Rattle.sheet_format.specs.Line.{natural}
use Rattle.tableau_plan.proofs.put_values.Given as goal

abbrev pub invariant-loop-c : goal.invariant-loop-c
invariant-loop-c l = (l.c ≤ 4) × Filled 0 l.initial.p l.p l.at (l.at + l.c) (shifted l.at (λ y. natural (get_or l.ws (7 * l.i + 2 + y) (pos 0))))
