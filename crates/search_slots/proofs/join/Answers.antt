use Rattle.search_slots.proofs.Words.{filled-joined}
use Rattle.search_slots.proofs.join.Goals as goal

pub returns : goal.returns
returns c = filled-joined _ _ _ _ c.loop-w-test.false c.loop-w.invariant
