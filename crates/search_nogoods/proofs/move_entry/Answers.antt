use Rattle.std.proofs.Common.{arith}
use Rattle.search_nogoods.proofs.Laws.{stored_copy, value-moved}
use Rattle.search_nogoods.proofs.move_entry.Goals as goal

pub returns : goal.returns
returns c = let a = c.args in
    let k = c.copy_within in
    value-moved a.sl.now a.sm.now a.from a.to k.new.self (omega arith) (omega arith) (omega arith)
    (stored_copy a.sm.now k.new.self a.from a.to _ (omega arith) (omega arith) (omega arith) k.ensures.len (omega arith) k.ensures.by_index.0 k.ensures.by_index.1 k.ensures.by_index.2)
