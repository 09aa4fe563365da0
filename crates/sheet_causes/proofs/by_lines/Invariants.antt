-- `causes::by_lines` meets its contract. The loop's invariant: going on from line i gives what all lines give.
use mathlib.Core.Path.{◌≡◌, refl, sym, ap, ◌∙◌}
use Prim.Native.Nat.{◌<◌, ◌-◌, ◌+◌}
use native.Mathlib.Omega.{arith}
use borrow.Author.Rules.{rules}
use mathlib.Core.List.{[]}
use lib.ListN.{length, get_or, drop}
use Rattle.sheet_format.proofs.WordLines.{lines-length}
use Rattle.sheet_format.specs.Line.{word_line, word_lines}
use Rattle.sheet_format.specs.Table.{table_in}
use Rattle.sheet_format.specs.Returns.{seen_of}
use Rattle.sheet_format.specs.Cause.{scan, start, step_of}
use Rattle.sheet_causes.proofs.Laws.{scan-stops, scan-goes, scan-end, missing-few, missing-none}
use Rattle.sheet_causes.proofs.by_lines.Given as goal

abbrev pub invariant-loop-i : goal.invariant-loop-i
invariant-loop-i l = scan (table_in l.table) (seen_of l.g) (word_line l.before) (l.i + 1) (drop l.i (word_lines l.ws)) ≡ scan (table_in l.table) start [] 1 (word_lines l.ws)
