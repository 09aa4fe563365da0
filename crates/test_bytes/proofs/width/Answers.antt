-- A byte and those that belong to it.
use native.Mathlib.Omega.{arith}
use Rattle.test_bytes.proofs.Meant.{extent-two, extent-none}
use Rattle.test_bytes.proofs.width.Goals as goal

pub returns-then-b-eq92 : goal.returns-then-b-eq92
returns-then-b-eq92 c = (omega arith, extent-two c.args.b c.if-b-eq92.true)

pub returns-else-b-eq92 : goal.returns-else-b-eq92
returns-else-b-eq92 c = (omega arith, extent-none c.args.b c.if-b-eq92.false)
