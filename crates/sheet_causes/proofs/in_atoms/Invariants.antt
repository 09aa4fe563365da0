-- `causes::in_atoms` meets its contract. The loop's invariant: the atoms from line i on have z if those from line j on do.
use mathlib.Core.Path.{◌≡◌, refl, sym, ap, ◌∙◌}
use Prim.Native.Nat.{◌<◌, ◌-◌}
use native.Mathlib.Omega.{arith}
use borrow.Author.Rules.{rules}
use mir.Syntax.{w32}
use mir.Val.{to_z}
use lib.ListN.{length, drop}
use mathlib.Core.Bool.{false}
use borrow.Author.Tests.{not-true, not-false}
use Rattle.sheet_format.proofs.WordLines.{lines-length}
use Rattle.list_laws.proofs.Words.{back}
use Rattle.sheet_format.specs.Line.{null, word_line, word_lines}
use Rattle.sheet_format.specs.Cause.{kind, is_atom, occurs, terms, atoms}
use Rattle.sheet_causes.proofs.Laws.{formed-at, has, has_stop, has_here, has_on, has_end}
use Rattle.sheet_causes.proofs.in_atoms.Given as goal

abbrev pub invariant-loop-j : goal.invariant-loop-j
invariant-loop-j l = has l.z (atoms (drop l.j (word_lines l.ws))) ≡ has l.z (atoms (drop l.i (word_lines l.ws)))
