use Rattle.std.proofs.Common.{arith}
use Rattle.search_nogoods.proofs.Laws.{stored_put}
use Rattle.search_nogoods.proofs.put_set.Goals as goal

pub returns : goal.returns
returns c = let a = c.args in rw c.copy_from_slice.ensures.after (stored_put a.sm.now a.set.now a.e _ c.requires (omega arith) (omega arith) (omega arith))
