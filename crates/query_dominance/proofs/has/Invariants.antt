use mathlib.Core.Bool.{true≢false}
use borrow.Author.Count.{below_more}
use mathlib.Core.Path.{◌≡◌}
use Prim.Native.Nat.{ℕ, ◌≤◌, ◌<◌, ◌-◌}
use native.Mathlib.Omega.{arith}
use Rattle.query_join.specs.Parts.{column_term}
use borrow.Author.Rules.{rules}
use Rattle.query_dominance.proofs.has.Given as goal

abbrev pub invariant-loop-c : goal.invariant-loop-c
invariant-loop-c l = ((e : ℕ) → e < l.c → column_term l.blk l.j e ≡ l.y → ⊥)
