use Rattle.search_witness.proofs.Laws.{row_read}
use Rattle.search_witness.proofs.reads_row.Goals as goal

pub returns : goal.returns
returns c = let a = c.args in row_read a.p.now a.ws.now a.first.now a.b c.in_ok-v.ensures c.in_ok-w.ensures c.in_ok-x.ensures c.in_ok-y.ensures
