-- `causes::line_at` meets its contract. The loop's invariant: the first j words are copied.
use mathlib.Core.Path.{◌≡◌, refl, sym, ap, ◌∙◌}
use Prim.Native.Nat.{◌≤◌, ◌-◌, ◌+◌, ◌*◌}
use native.Mathlib.Omega.{arith}
use borrow.Author.Rules.{rules}
use lib.IntN.{pos}
use lib.ListN.{length, get_or, take, drop, length-set}
use Rattle.sheet_format.proofs.WordLines.{line_get}
use Rattle.list_laws.proofs.Words.{word_back}
use Rattle.sheet_format.specs.Line.{word_line}
use Rattle.sheet_causes.proofs.Laws.{word_more, whole-line}
use Rattle.sheet_causes.proofs.line_at.Given as goal

abbrev pub invariant-loop-j : goal.invariant-loop-j
invariant-loop-j l = (length l.l ≡ 7) × (l.j ≤ 7) × (take l.j l.l ≡ take l.j (drop l.at l.ws))
