use Rattle.std.proofs.Common.{take}
use Rattle.search_reasons.specs.Reasons.{SlotsAdded}
use Rattle.search_reasons.proofs.add_slots.Given as goal

abbrev pub invariant-loop-v : goal.invariant-loop-v
invariant-loop-v l = SlotsAdded (take l.v-index l.u) l.initial.set l.set
