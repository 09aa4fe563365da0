use mathlib.Core.Path.{◌≡◌}
use lib.ListN.{length}
use Rattle.search_reasons.proofs.Ways.{WayTo}
use Rattle.search_reasons.proofs.mark_way.Given as goal

abbrev pub invariant-loop-x : goal.invariant-loop-x
invariant-loop-x l = (length l.set ≡ length l.initial.set) × WayTo l.ws l.w l.x l.initial.set l.set

abbrev pub decreases-loop-x : goal.decreases-loop-x
decreases-loop-x l = l.x
