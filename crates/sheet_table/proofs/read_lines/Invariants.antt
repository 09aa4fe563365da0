use mathlib.Core.Path.{sym, ◌∙◌}
use Prim.Native.Nat.{◌+◌, ◌-◌}
use native.Mathlib.Omega.{arith}
use lib.ListN.{length}
use borrow.Author.Tests.{not-true, not-false}
use Rattle.sheet_line_ends.proofs.Laws.{end-inside}
use Rattle.sheet_table.proofs.Reading.{Reading, reading-none, too_many, unclosed, LineTaken, wrong_line, right-line, empty, read_done, read-refused}
use Rattle.sheet_table.proofs.read_lines.Given as goal

abbrev pub invariant-loop-at : goal.invariant-loop-at
invariant-loop-at l = Reading l.s l.ns l.n l.at

abbrev pub decreases-loop-at : goal.decreases-loop-at
decreases-loop-at l = length l.s - l.at
