use mathlib.Core.Path.{◌≡◌, refl}
use Prim.Native.Nat.{◌≤◌, ◌-◌}
use native.Mathlib.Omega.{arith}
use borrow.Author.Rules.{rules}
use Prim.Native.Nat.{◌/◌}
use lib.ListN.{length, take}
use Rattle.sheet_format.specs.Line.{bytes_of, word_lines}
use Rattle.list_laws.specs.Wrote.{Wrote}
use Rattle.sheet_writer.proofs.WriteLaws.{lines_none, few-lines, line-formed, at_small, lines_more, lines-all}
use Rattle.sheet_writer.proofs.put_lines.Given as goal

abbrev pub invariant-loop-i : goal.invariant-loop-i
invariant-loop-i l = (l.i ≤ length l.words / 7) × (length l.out ≡ length l.initial.out) × Wrote l.initial.out l.out 0 l.at (bytes_of (take l.i (word_lines l.words)))
