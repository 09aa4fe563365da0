use Prim.Native.Nat.{◌≤◌, ◌/◌}
use lib.ListN.{length}
use Rattle.tableau_layout.specs.Layout.{blocks_at, rows_at}
use Rattle.sheet_format.specs.Limits.{most_rows}
use Rattle.sheet_format.specs.Line.{word_lines}
use Rattle.tableau_plan.specs.Parts.{KeptOutside, RowsDone}
use Rattle.query_blocks.specs.Parts.{AcceptedLines}
use Rattle.tableau_plan.proofs.put_rows.Given as goal

abbrev pub invariant-loop-i : goal.invariant-loop-i
invariant-loop-i l = (l.i ≤ length l.ws / 7) × (l.walk.views ≤ l.i) × (l.walk.rows ≤ most_rows) × KeptOutside l.initial.p l.p rows_at blocks_at × (AcceptedLines (word_lines l.ws) → RowsDone l.p (word_lines l.ws) l.i l.walk.views l.walk.rows)
