-- The loop holds that the facts passed are replaced.
use Rattle.std.proofs.Common.{◌≡◌, ℕ, ◌<◌}
use Rattle.query_join.specs.Joins.{Becomes}
use Rattle.query_dominance.specs.Dominance.{Replaced}
use Rattle.query_dominance.proofs.all_replaced.Given as goal

abbrev pub invariant-loop-i : goal.invariant-loop-i
invariant-loop-i l = (k : ℕ) → k < l.i → (v : ℕ → ℕ) → v l.y ≡ l.a → Becomes l.blk l.facts v l.j k → Replaced l.blk l.facts l.j l.y l.b k
