use Rattle.search_slots.proofs.Words.{ApartTo}
use Rattle.search_slots.proofs.meet.Given as goal

abbrev pub invariant-loop-w : goal.invariant-loop-w
invariant-loop-w l = ApartTo l.a l.b l.w
