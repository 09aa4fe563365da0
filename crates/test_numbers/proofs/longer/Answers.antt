-- A digit, a byte below the digits, and one above them.
use Rattle.std.proofs.Common.{arith}
use Rattle.test_numbers.proofs.Numbers.{longer-low, longer-high, longer-digit}
use Rattle.test_numbers.proofs.longer.Goals as goal

pub returns-in-48-to-57 : goal.returns-in-48-to-57
returns-in-48-to-57 c = let e = longer-digit c.args.n c.args.b (omega arith) (omega arith) in omega arith

pub returns-in_default : goal.returns-in_default
returns-in_default c = let e = longer-low c.args.n c.args.b (omega arith) in omega arith

pub returns-in_default-2 : goal.returns-in_default-2
returns-in_default-2 c = let e = longer-high c.args.n c.args.b (omega arith) in omega arith
