use Rattle.search_slots.proofs.Words.{filled_put}
use Rattle.search_slots.proofs.put.Goals as goal

pub returns : goal.returns
returns c = filled_put _ _ _ _ c.loop-w-test.false c.loop-w.invariant
