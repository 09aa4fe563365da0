use Rattle.search_witness.proofs.Laws.{column_agreed}
use Rattle.search_witness.proofs.reads_column.Goals as goal

pub returns : goal.returns
returns c = let k = c.agree in
    let z = c.place_of-z in
    let a = c.args in
    λ e. column_agreed a.p.now a.ws.now a.first.now a.b a.j a.i a.c z.result a.set.now k.new.set c.requires.1 c.requires.3 z.ensures
    k.result e (k.ensures.0 c.if-w-ge-NOWHERE.false c.if-z-ge-NOWHERE.false)
