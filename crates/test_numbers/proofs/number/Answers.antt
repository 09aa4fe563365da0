-- One byte more is read.
use Rattle.std.proofs.Common.{◌∙◌, arith}
use Rattle.test_numbers.proofs.Numbers.{number_step}
use Rattle.test_numbers.proofs.number.Goals as goal

pub loop-b-preserved : goal.loop-b-preserved
loop-b-preserved c = let l = c.loop-b in
    (number_step l.n c.longer-n.result l.b-index c.args.s.now (omega arith) c.longer-n.ensures ∙ l.invariant.0, omega arith)
