-- The mark of a place.
use native.Mathlib.Omega.{arith}
use Rattle.test_lent.proofs.Places.{mark-own, mark-last}
use Rattle.test_lent.proofs.mark_of.Goals as goal

pub returns-then-i-lt100000 : goal.returns-then-i-lt100000
returns-then-i-lt100000 c = mark-own c.args.i (omega arith)

pub returns-else-i-lt100000 : goal.returns-else-i-lt100000
returns-else-i-lt100000 c = mark-last c.args.i (omega arith)
