use mathlib.Core.Path.{◌≡◌}
use Prim.Native.Nat.{◌≤◌, ◌-◌, ◌+◌, ◌*◌}
use native.Mathlib.Omega.{arith}
use borrow.Author.Rules.{rules}
use lib.ListN.{length, take}
use Rattle.list_laws.proofs.Words.{word_back}
use Rattle.list_laws.specs.Wrote.{Wrote}
use Rattle.list_laws.proofs.Laws.{copied_none, copied_more, copied_all}
use lib.IntN.{pos}
use Rattle.sheet_reader.proofs.put_line.Given as goal

abbrev pub invariant-loop-j : goal.invariant-loop-j
invariant-loop-j l = (l.j ≤ 7) × (length l.l ≡ 7) × Wrote l.initial.ws l.ws l.at (l.at + l.j) (take l.j l.l)
