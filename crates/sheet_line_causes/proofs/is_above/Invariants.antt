use mathlib.Core.Bool.{true, false, cond}
use mathlib.Core.Path.{◌≡◌, refl, sym, ◌∙◌}
use Prim.Native.Nat.{◌≤◌, ◌-◌, ◌+◌}
use native.Mathlib.Omega.{arith}
use borrow.Author.Rules.{rules}
use lib.IntN.{pos}
use lib.ListN.{get_or}
use lib.Seq.{slice}
use lib.Signed.{lt_z}
use mir.Syntax.{w32}
use mir.Val.{to_z, of_z}
use Rattle.sheet_format.proofs.Slices.{above-end, above-short, above_step}
use Rattle.list_laws.proofs.Words.{word_back}
use Rattle.sheet_format.specs.Cause.{above}
use Rattle.sheet_line_causes.proofs.is_above.Given as goal

abbrev pub invariant-loop-i : goal.invariant-loop-i
invariant-loop-i l = (2 ≤ l.i) × (above (slice 2 l.m l.before) (slice 2 l.n l.words) ≡ above (slice l.i l.m l.before) (slice l.i l.n l.words))
