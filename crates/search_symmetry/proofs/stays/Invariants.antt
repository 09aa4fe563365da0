-- The loop holds that the constants passed stay.
use Rattle.search_symmetry.specs.Steps.{Stays}
use Rattle.search_symmetry.proofs.stays.Given as goal

abbrev pub invariant-loop-k : goal.invariant-loop-k
invariant-loop-k l = Stays l.p l.a l.b l.k
