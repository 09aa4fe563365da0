use Rattle.std.proofs.Common.{arith}
use Rattle.search_keys.proofs.Marks.{row-marked}
use Rattle.search_keys.proofs.mark_row.Goals as goal

pub returns : goal.returns
returns c = let a = c.args in
    λ f. row-marked a.p.now a.ws.now a.i a.key (c.mark_value-a.ensures (f 0 (omega arith))) (c.mark_value-b.ensures (f 1 (omega arith)))
    (c.mark_value-c.ensures (f 2 (omega arith))) (c.mark_value-d.ensures (f 3 (omega arith)))
