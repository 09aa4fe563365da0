use Rattle.search_witness.proofs.Laws.{columns-all}
use Rattle.search_witness.proofs.reads_atom.Goals as goal

pub returns : goal.returns
returns c = let a = c.args in
    λ e. columns-all a.p.now a.ws.now a.first.now a.b a.j a.i c.loop-c.c c.requires.1 c.loop-c-test.false c.if-p-i.false c.loop-c.invariant
