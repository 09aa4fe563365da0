-- Where a byte lies among the digits and letters.
use Rattle.std.proofs.Common.{arith}
use Rattle.test_bytes.proofs.Meant.{digit_figure, digit_letter, digit_low, digit-between, digit-high}
use Rattle.test_bytes.proofs.digit.Goals as goal

pub returns-in-48-to-57 : goal.returns-in-48-to-57
returns-in-48-to-57 c = (omega arith, digit_figure c.args.b (omega arith) (omega arith))

pub returns-in-97-to-102 : goal.returns-in-97-to-102
returns-in-97-to-102 c = let e = digit_letter c.args.b (omega arith) (omega arith) in (omega arith, omega arith)

pub returns-in_default : goal.returns-in_default
returns-in_default c = (omega arith, digit_low c.args.b (omega arith))

pub returns-in_default-2 : goal.returns-in_default-2
returns-in_default-2 c = (omega arith, digit-between c.args.b (omega arith) (omega arith))

pub returns-in_default-3 : goal.returns-in_default-3
returns-in_default-3 c = (omega arith, digit-high c.args.b (omega arith))
