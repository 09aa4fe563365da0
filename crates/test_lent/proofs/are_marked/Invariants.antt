-- The words from `from` on are marked exactly where those from i on are.
use Rattle.test_lent.proofs.Places.{MarksFrom}
use Rattle.test_lent.proofs.are_marked.Given as goal

abbrev pub invariant-loop-i : goal.invariant-loop-i
invariant-loop-i l = (MarksFrom l.lent l.i → MarksFrom l.lent l.from) × (MarksFrom l.lent l.from → MarksFrom l.lent l.i)
