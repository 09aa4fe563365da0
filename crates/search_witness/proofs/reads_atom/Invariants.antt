use Rattle.search_witness.proofs.Laws.{ColumnsRead}
use Rattle.search_witness.proofs.reads_atom.Given as goal

abbrev pub invariant-loop-c : goal.invariant-loop-c
invariant-loop-c l = ColumnsRead l.p l.ws l.first l.b l.j l.i l.c l.initial.set l.set
