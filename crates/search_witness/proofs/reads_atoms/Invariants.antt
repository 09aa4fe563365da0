use Rattle.search_witness.specs.Witness.{AtomsRead}
use Rattle.search_witness.proofs.reads_atoms.Given as goal

abbrev pub invariant-loop-j : goal.invariant-loop-j
invariant-loop-j l = AtomsRead l.p l.ws l.first l.from l.b l.at l.j l.initial.set l.set
