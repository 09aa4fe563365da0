use mathlib.Core.Bool.{true, false}
use mathlib.Core.Path.{◌≡◌}
use Prim.Native.Nat.{ℕ, ◌≤◌, ◌<◌, ◌-◌, ◌+◌, ◌*◌}
use native.Mathlib.Omega.{arith}
use lib.ListN.{length, get_or, length-set}
use Rattle.query_dominance.specs.Dominance.{Lone}
use Rattle.query_dominance.proofs.Laws.{lone-more}
use borrow.Author.Rules.{rules}
use Rattle.query_dominance.proofs.lone_columns.Given as goal

abbrev pub invariant-loop-c : goal.invariant-loop-c
invariant-loop-c l = (length l.free ≡ 4) × ((e : ℕ) → e < l.c → get_or l.free e false ≡ true → Lone l.blk (l.j * 5 + 1 + e))
