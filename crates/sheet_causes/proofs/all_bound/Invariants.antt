-- `causes::all_bound` meets its contract. The loop's invariant: the terms are bound if those from field j on are.
use mathlib.Core.Path.{◌≡◌, sym, ap, ◌∙◌}
use Prim.Native.Nat.{◌≤◌, ◌<◌, ◌-◌, ◌+◌}
use native.Mathlib.Omega.{arith}
use borrow.Author.Rules.{rules}
use mathlib.Core.Bool.{false}
use lib.IntN.{pos}
use lib.ListN.{length, get_or, drop}
use borrow.Author.Tests.{not-true, not-false}
use Rattle.sheet_format.proofs.WordLines.{lines-length, field-word}
use Rattle.list_laws.proofs.Words.{word_back}
use Rattle.sheet_format.specs.Line.{all, null, word_line, word_lines}
use Rattle.sheet_format.specs.Cause.{atoms, rest, bound}
use Rattle.sheet_causes.proofs.Laws.{formed-at, all-off, all-on, all_end, all_rest}
use Rattle.sheet_causes.proofs.all_bound.Given as goal

abbrev pub invariant-loop-j : goal.invariant-loop-j
invariant-loop-j l = (1 ≤ l.j) × (all (bound (atoms (drop (l.i + 1) (word_lines l.ws)))) (drop l.j (word_line l.l)) ≡ all (bound (atoms (drop (l.i + 1) (word_lines l.ws)))) (rest (word_line l.l)))
