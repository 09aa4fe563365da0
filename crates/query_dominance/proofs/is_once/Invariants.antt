-- The loop holds that no other column passed has the term.
use Rattle.std.proofs.Common.{◌≡◌, ℕ, ◌<◌, ◌+◌, get_or}
use Rattle.query_layout.specs.Layout.{block_head}
use Rattle.query_dominance.proofs.is_once.Given as goal

abbrev pub invariant-loop-q : goal.invariant-loop-q
invariant-loop-q l = (r : ℕ) → r < l.q → (r ≡ l.p → ⊥) → get_or l.blk (block_head + r) 0 ≡ get_or l.blk (block_head + l.p) 0 → ⊥
