-- After i turns the first i words are marked.
use Rattle.std.proofs.Common.{◌≡◌, length, take}
use Rattle.test_lent.specs.Marks.{marks}
use Rattle.test_lent.proofs.put_marks.Given as goal

abbrev pub invariant-loop-i : goal.invariant-loop-i
invariant-loop-i l = (length l.lent ≡ length l.initial.lent) × (take l.i l.lent ≡ marks 0 l.i)
