use native.Mathlib.Omega.{arith}
use Rattle.text_buffer.proofs.Laws.{nothing}
use Rattle.text_writer.specs.Texts.{without_blanks}
use Rattle.text_writer.proofs.Parts.{more-plain}
use Rattle.text_writer.proofs.put_plain.Goals as goal

pub loop-b-init : goal.loop-b-init
unfolding without_blanks
loop-b-init c = nothing c.args.out.now c.args.at

pub loop-b-preserved : goal.loop-b-preserved
loop-b-preserved c = more-plain c.args.s.now c.loop-b.b-index (omega arith) c.loop-b.invariant c.put_unless_blank-n.ensures
