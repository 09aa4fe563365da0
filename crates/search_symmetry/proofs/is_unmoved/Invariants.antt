-- The loop holds that the copies of the values passed stay.
use Rattle.search_symmetry.specs.Steps.{Unmoved}
use Rattle.search_symmetry.proofs.is_unmoved.Given as goal

abbrev pub invariant-loop-v : goal.invariant-loop-v
invariant-loop-v l = Unmoved l.to l.u l.v-index
