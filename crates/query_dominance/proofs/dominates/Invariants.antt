-- The loop holds that b dominates a in the atoms passed.
use Rattle.std.proofs.Common.{ℕ, ◌<◌}
use Rattle.query_dominance.specs.Dominance.{AtomDominates}
use Rattle.query_dominance.proofs.dominates.Given as goal

abbrev pub invariant-loop-j : goal.invariant-loop-j
invariant-loop-j l = (k : ℕ) → k < l.j → AtomDominates l.blk l.facts k l.y l.a l.b
