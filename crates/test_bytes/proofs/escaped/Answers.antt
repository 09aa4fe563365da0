-- Whether two bytes stand there.
use Rattle.std.proofs.Common.{arith}
use Rattle.test_bytes.proofs.Meant.{escaped_few, escaped_two}
use Rattle.test_bytes.proofs.escaped.Goals as goal

pub returns-in_default : goal.returns-in_default
returns-in_default c = escaped_few c.args.rest.now (omega arith)

pub returns-in-len2-up : goal.returns-in-len2-up
returns-in-len2-up c = rw (c.digit.ensures.1, c.digit-in-len2-up.ensures.1) (escaped_two c.args.rest.now (omega arith))
