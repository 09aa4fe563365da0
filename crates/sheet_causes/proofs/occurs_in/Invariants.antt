-- `causes::occurs_in` meets its contract. The loop's invariant: z is among the terms if it is among those from field j on.
use mathlib.Core.Path.{◌≡◌, sym, ap, ◌∙◌}
use Prim.Native.Nat.{◌≤◌, ◌-◌}
use native.Mathlib.Omega.{arith}
use borrow.Author.Rules.{rules}
use lib.IntN.{pos}
use mir.Syntax.{w32}
use mir.Val.{to_z, of_z}
use lib.ListN.{get_or, drop}
use Rattle.sheet_format.proofs.WordLines.{field-word}
use Rattle.list_laws.proofs.Words.{back, of_bits}
use Rattle.sheet_format.specs.Line.{word_line}
use Rattle.sheet_format.specs.Cause.{occurs, terms}
use Rattle.sheet_causes.proofs.Laws.{terms-drop, occurs-here, occurs-on, occurs-end}
use Rattle.sheet_causes.proofs.occurs_in.Given as goal

abbrev pub invariant-loop-j : goal.invariant-loop-j
invariant-loop-j l = (2 ≤ l.j) × (occurs l.z (drop l.j (word_line l.l)) ≡ occurs l.z (terms (word_line l.l)))
