-- As many lists as have their heads among the lines so far.
use Prim.Native.Nat.{◌≤◌, ◌/◌}
use lib.ListN.{length}
use Rattle.sheet_format.specs.Line.{word_lines}
use Rattle.query_blocks.specs.Parts.{AcceptedLines}
use Rattle.tableau_plan.proofs.Blocks.{ListsSoFar}
use Rattle.tableau_plan.proofs.count_lists.Given as goal

abbrev pub invariant-loop-i : goal.invariant-loop-i
invariant-loop-i l = (l.i ≤ length l.ws / 7) × (l.lists ≤ l.i) × (AcceptedLines (word_lines l.ws) → ListsSoFar (word_lines l.ws) l.i l.lists)
