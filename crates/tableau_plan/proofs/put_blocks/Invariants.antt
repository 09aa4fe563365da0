-- The first b blocks have been stored, each at its place.
use mathlib.Core.Path.{◌≡◌}
use Prim.Native.Nat.{◌≤◌}
use lib.ListN.{length}
use Rattle.tableau_layout.specs.Layout.{most_blocks, plan_numbers}
use Rattle.sheet_format.specs.Line.{word_lines}
use Rattle.query_blocks.specs.Parts.{AcceptedLines}
use Rattle.tableau_plan.proofs.Blocks.{BlocksSoFar}
use Rattle.tableau_plan.proofs.put_blocks.Given as goal

abbrev pub invariant-loop-b : goal.invariant-loop-b
invariant-loop-b l = (l.b ≤ most_blocks) × (length l.p ≡ plan_numbers) × (AcceptedLines (word_lines l.ws) → BlocksSoFar l.p (word_lines l.ws) l.lists l.b)
