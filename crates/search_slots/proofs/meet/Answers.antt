use Rattle.std.proofs.Common.{refl}
use Rattle.search_slots.proofs.Words.{apart-all, sets-met}
use Rattle.search_slots.proofs.meet.Goals as goal

pub returns-then-less-x : goal.returns-then-less-x
returns-then-less-x c = let w = c.loop-w.w in
    sets-met _ _ w _ c.word.result c.less.result c.loop-w-test.true refl c.word.ensures c.less.ensures (c.type_inv.a w).fits c.if-less-x.true

pub returns : goal.returns
returns c = apart-all _ _ _ c.loop-w-test.false c.loop-w.invariant
