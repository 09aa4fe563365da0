use Rattle.text_buffer.proofs.Laws.{nothing}
use Rattle.test_bytes.proofs.Meant.{same_more}
use Rattle.test_bytes.proofs.fill.Goals as goal

pub loop-init : goal.loop-init
loop-init c = nothing c.args.out.now c.args.at

pub loop-preserved : goal.loop-preserved
loop-preserved c = same_more c.loop.counter c.args.b c.loop.invariant c.put_byte-n.ensures
