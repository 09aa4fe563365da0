use Rattle.std.proofs.Common.{arith}
use mathlib.Core.Path.{◌∙◌}
use lib.ListN.{length-set}
use Rattle.query_containment.proofs.Laws.{own-more}
use Rattle.query_containment.proofs.own_values.Goals as goal

pub loop-x-preserved : goal.loop-x-preserved
loop-x-preserved c = let a = c.args in
    let l = c.loop-x in
    (length-set l.vals l.x c.own_value.result ∙ l.invariant.0, own-more a.q.now a.row a.k l.x c.own_value.result l.vals (omega arith) l.invariant.1 c.own_value.ensures)
