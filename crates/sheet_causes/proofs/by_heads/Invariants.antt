-- `causes::by_heads` meets its contract. The loop's invariant: the lines from i on give what all lines give.
use mathlib.Core.Path.{◌≡◌, refl, sym, ◌∙◌}
use Prim.Native.Nat.{◌-◌, ◌+◌}
use native.Mathlib.Omega.{arith}
use borrow.Author.Rules.{rules}
use lib.ListN.{drop}
use Rattle.sheet_format.proofs.WordLines.{lines-length}
use Rattle.sheet_format.specs.Line.{word_lines}
use Rattle.sheet_format.specs.Cause.{heads}
use Rattle.sheet_causes.proofs.Laws.{heads-here, heads-on, heads-end}
use Rattle.sheet_causes.proofs.by_heads.Given as goal

abbrev pub invariant-loop-i : goal.invariant-loop-i
invariant-loop-i l = heads (l.i + 1) (drop l.i (word_lines l.ws)) ≡ heads 1 (word_lines l.ws)
