-- The loop holds how many heads are left from a line on.
use Rattle.std.proofs.Common.{◌≤◌}
use Rattle.sheet_format.specs.Line.{word_lines}
use Rattle.query_blocks.specs.Parts.{AcceptedLines}
use Rattle.query_blocks.proofs.Parts.{Left}
use Rattle.query_blocks.proofs.head_line.Given as goal

abbrev pub invariant-loop-i : goal.invariant-loop-i
invariant-loop-i l = (1 ≤ l.left) × (AcceptedLines (word_lines l.ws) → Left (word_lines l.ws) l.k l.i l.left)
