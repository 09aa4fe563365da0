use Rattle.std.proofs.Common.{arith, sym, ◌∙◌}
use Rattle.judge_ends.proofs.Laws.{falls-more, falls-here, passed-all}
use Rattle.judge_ends.proofs.falls_back.Goals as goal

pub returns-then-end-before : goal.returns-then-end-before
returns-then-end-before c = sym (falls-here c.loop-end.before c.args.ends.now c.loop-end.end-index (omega arith) c.if-end-before.true) ∙ c.loop-end.invariant

pub loop-end-preserved : goal.loop-end-preserved
loop-end-preserved c = sym (falls-more c.loop-end.before c.args.ends.now c.loop-end.end-index (omega arith) c.if-end-before.false) ∙ c.loop-end.invariant

pub returns : goal.returns
returns c = passed-all c.loop-end.before c.args.ends.now c.loop-end.end-index (omega arith) ∙ c.loop-end.invariant
