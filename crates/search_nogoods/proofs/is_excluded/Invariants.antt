use Rattle.std.proofs.Common.{◌≡◌}
use Rattle.search_nogoods.proofs.is_excluded.Given as goal

abbrev pub invariant-loop-c : goal.invariant-loop-c
invariant-loop-c l = l.set ≡ l.initial.set
