use mathlib.Core.Path.{◌≡◌, sym, ap, ◌∙◌, subst}
use Prim.Native.Nat.{ℕ, ◌≤◌, ◌<◌, ◌-◌, ◌+◌}
use native.Mathlib.Omega.{arith}
use borrow.Author.Rules.{rules}
use mathlib.Core.List.{List, map}
use lib.ListN.{length, get_or, take, set, length-map, length-set, get_or-map}
use lib.IntN.{pos}
use lib.Seq.{take-length}
use mir.Syntax.{w32}
use mir.Val.{to_z, of_z}
use mir.ValLaws.{to_z-of_z}
use Rattle.list_laws.specs.Wrote.{Wrote}
use Rattle.list_laws.proofs.Laws.{wrote_none, copied_next}
use Rattle.case_writer.proofs.word.Reads as word-reads
use Rattle.case_writer.proofs.put_facts.Given as goal

abbrev pub Small : List ℕ → Type 0
Small facts = (j : ℕ) → j < length facts → get_or facts j 0 < 2147483648

abbrev pub invariant-loop-i : goal.invariant-loop-i
invariant-loop-i l = (length l.out ≡ length l.initial.out) × (Small l.facts → Wrote l.initial.out l.out 0 l.i (take l.i (map pos l.facts)))
