use mathlib.Core.Path.{◌≡◌, refl, sym, ap, ◌∙◌, subst}
use Prim.Native.Nat.{◌≤◌, ◌-◌, ◌+◌, ◌*◌}
use native.Mathlib.Omega.{arith}
use borrow.Author.Rules.{rules}
use lib.ListN.{length, drop}
use mathlib.Core.Bool.{true}
use Rattle.sheet_format.specs.Line.{all, is_number}
use Rattle.sheet_reader.proofs.LineOf.{firsts, part_words, part-more, all_more, line-none, line-whole, line-broken, field-here}
use lib.IntN.{pos}
use lib.ListN.{set, take, length-drop}
use mir.Syntax.{w32}
use mir.Val.{SFits}
use mir.ValLaws.{to_z-of_z, to_z_pos}
use Rattle.sheet_reader.proofs.fields_at.Given as goal

abbrev pub invariant-loop-j : goal.invariant-loop-j
invariant-loop-j l = (l.j ≤ l.n) × (all is_number (firsts (drop l.at l.s) l.j) ≡ true) × (l.ws ≡ part_words (drop l.at l.s) l.j)
