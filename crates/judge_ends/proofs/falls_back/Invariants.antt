-- The ends that are left fall back exactly where all do.
use Rattle.std.proofs.Common.{◌≡◌, drop}
use Rattle.judge_ends.specs.Sets.{ends_fall_back}
use Rattle.judge_ends.proofs.falls_back.Given as goal

abbrev pub invariant-loop-end : goal.invariant-loop-end
invariant-loop-end l = ends_fall_back l.before (drop l.end-index l.ends) ≡ ends_fall_back 0 l.ends
