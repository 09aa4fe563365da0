use Rattle.query_containment.proofs.Laws.{atoms-more}
use Rattle.query_containment.proofs.put_atoms.Goals as goal

pub loop-j-preserved : goal.loop-j-preserved
loop-j-preserved c = let l = c.loop-j in
    let a = c.args in
    atoms-more a.q.now a.vals.now l.j a.m c.atom.result a.out.now l.out c.put.new.out l.invariant c.atom.ensures c.put.ensures
