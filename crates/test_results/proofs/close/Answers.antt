-- The last word of a unit; any other word, or no unit.
use mathlib.Core.Path.{sym}
use native.Mathlib.Omega.{arith}
use Rattle.test_results.proofs.Spelled.{closing-none, closing_unit, closing-word}
use Rattle.test_results.proofs.close.Goals as goal
use Rattle.test_results.proofs.close.Goals.{else-unit-ne0-via-then-unit-ne0+else-i-unit-eq0, else-unit-ne0-via-else-unit-ne0}

pub returns-then-i-unit-eq0 : goal.returns-then-i-unit-eq0
returns-then-i-unit-eq0 c = sym (closing_unit c.args.unit c.args.i c.if-unit-ne0.true c.if-i-unit-eq0.true)

pub returns-else-unit-ne0 : goal.returns-else-unit-ne0
returns-else-unit-ne0 c =
    elim c.else-unit-ne0.branch [
      | else-unit-ne0-via-then-unit-ne0+else-i-unit-eq0 w ↦ sym (closing-word c.args.unit c.args.i w.if-unit-ne0.true w.if-i-unit-eq0.false)
      | else-unit-ne0-via-else-unit-ne0 w ↦ sym (closing-none c.args.unit c.args.i (omega arith))
    ]
