use Rattle.search_keys.proofs.Laws.{settled-more}
use Rattle.search_keys.proofs.clashing.Goals as goal

pub loop-k-preserved : goal.loop-k-preserved
loop-k-preserved c = settled-more c.args.p.now c.args.facts.now c.args.i c.loop-k.k c.loop-k.invariant c.if-is_clash.ensures
