use Rattle.search_nogoods.specs.Parts.{NoValueTo}
use Rattle.search_nogoods.proofs.find.Given as goal

abbrev pub invariant-loop-e : goal.invariant-loop-e
invariant-loop-e l = NoValueTo l.sl l.n l.w l.e
