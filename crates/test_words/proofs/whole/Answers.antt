-- No multiple is looked for, n is one, or the next is. What is over is below the unit.
use native.Mathlib.Omega.{arith}
use Rattle.test_words.proofs.Read.{whole_no_unit, whole_large_unit, whole_large, whole_already, whole-next}
use Rattle.test_words.proofs.whole.Goals as goal

pub returns-then-unit-lt1 : goal.returns-then-unit-lt1
returns-then-unit-lt1 c = whole_no_unit c.args.unit c.args.n (omega arith)

pub returns-then-unit-gt10000 : goal.returns-then-unit-gt10000
returns-then-unit-gt10000 c = whole_large_unit c.args.unit c.args.n (omega arith)

pub returns-then-n-gt10000 : goal.returns-then-n-gt10000
returns-then-n-gt10000 c = whole_large c.args.unit c.args.n (omega arith) (omega arith) (omega arith)

pub returns-then-n-unit-eq0 : goal.returns-then-n-unit-eq0
returns-then-n-unit-eq0 c = whole_already c.args.unit c.args.n (omega arith) (omega arith) (omega arith) c.if-n-unit-eq0.true

pub returns : goal.returns
returns c = whole-next c.args.unit c.args.n (omega arith) (omega arith) (omega arith) c.if-n-unit-eq0.false
