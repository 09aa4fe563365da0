use Rattle.query_containment.specs.Containment.{AtomsPut}
use Rattle.query_containment.proofs.put_atoms.Given as goal

abbrev pub invariant-loop-j : goal.invariant-loop-j
invariant-loop-j l = AtomsPut l.q l.vals l.j l.m l.initial.out l.out
