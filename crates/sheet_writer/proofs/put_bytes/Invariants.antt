use mathlib.Core.Path.{◌≡◌, refl, ap, ◌∙◌, subst}
use Prim.Native.Nat.{◌≤◌, ◌-◌, ◌+◌, ◌*◌}
use native.Mathlib.Omega.{arith}
use borrow.Author.Rules.{rules}
use lib.ListN.{length, get_or, take}
use lib.IntN.{pos, nat_abs}
use lib.ListN.{length-set}
use mir.Syntax.{w32}
use mir.ValLaws.{to_z-of_z}
use Rattle.sheet_format.specs.Field.{field_bytes}
use Rattle.sheet_format.specs.Line.{gather, word_line}
use Rattle.list_laws.specs.Wrote.{Wrote}
use Rattle.list_laws.proofs.Laws.{wrote_none}
use Rattle.sheet_writer.proofs.WriteLaws.{seven_at, first_word, line-few, field-word, field-more, line-closed}
use Rattle.sheet_writer.proofs.put_bytes.Given as goal

abbrev pub invariant-loop-j : goal.invariant-loop-j
invariant-loop-j l = (l.j ≤ l.n) × (l.n ≤ 6) × (l.n ≡ length (word_line (seven_at l.words l.i))) × (l.to ≡ l.at + l.j * 8) × (length l.out ≡ length l.initial.out) × Wrote l.initial.out l.out l.at l.to (gather field_bytes (take l.j (word_line (seven_at l.words l.i))))
