use Rattle.search_slots.proofs.Words.{filled-less}
use Rattle.search_slots.proofs.subtract.Goals as goal

pub returns : goal.returns
returns c = filled-less _ _ _ _ c.loop-w-test.false c.loop-w.invariant
