use Rattle.text_buffer.proofs.Laws.{outside, copied}
use Rattle.text_buffer.proofs.put.Goals as goal

pub returns-then-out-at : goal.returns-then-out-at
returns-then-out-at c = outside c.args.out.now c.args.at c.args.s.now c.if-out-at.true

pub returns : goal.returns
returns c = let e = c.copy_from_slice.ensures.after in copied c.args.out.now c.args.at c.min-fitting.result c.args.s.now _ c.if-out-at.false c.min-fitting.ensures e
