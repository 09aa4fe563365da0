-- `facts::in_order` meets its contract.
use Rattle.query_facts.proofs.Laws.{order-next}
use Rattle.query_facts.proofs.in_order.Goals as goal

pub returns : goal.returns
returns c = order-next c.args.fs.now c.args.i c.is_above.result c.if-i-eq0.false c.requires c.is_above.ensures
