use Rattle.std.proofs.Common.{arith}
use Rattle.search_keys.proofs.Laws.{all_settled, each_more}
use Rattle.search_keys.proofs.first_clash.Goals as goal

pub loop-left-preserved : goal.loop-left-preserved
loop-left-preserved c = each_more c.args.p.now c.args.facts.now _ c.loop-left.left c.loop-left.invariant c.in_default.ensures

pub returns : goal.returns
returns c = all_settled c.args.p.now c.args.facts.now (λ i k lt h. c.loop-left.invariant i (omega arith) k lt h)
