use mathlib.Core.Path.{◌≡◌, sym, ◌∙◌}
use Prim.Native.Nat.{◌≤◌, ◌-◌, ◌+◌}
use native.Mathlib.Omega.{arith}
use borrow.Author.Rules.{rules}
use lib.ListN.{length}
use Rattle.sheet_format.specs.Line.{line_at}
use Rattle.sheet_line_ends.proofs.Laws.{end-inside}
use Rattle.sheet_lines.proofs.FindLaws.{line_from, from_start, from_next, found_none, found-end, found_here}
use Rattle.sheet_lines.specs.Start.{line_start}
use Rattle.sheet_lines.proofs.StartLaws.{start_from, start_first, start-next, start_none, start-end, start-here}
use Rattle.sheet_lines.proofs.find_line.Given as goal

abbrev pub invariant-loop-at : goal.invariant-loop-at
invariant-loop-at l = (l.at ≤ length l.s) × (l.k ≤ l.at + 1) × (line_at l.s l.number ≡ line_from l.s l.at l.k l.number) × (line_start l.s l.number ≡ start_from l.s l.at l.k l.number)

abbrev pub decreases-loop-at : goal.decreases-loop-at
decreases-loop-at l = length l.s - l.at
