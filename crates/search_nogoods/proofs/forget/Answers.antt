use Rattle.std.proofs.Common.{◌≡◌, arith, ap, subst, length, ◌∙◌}
use Rattle.search_nogoods.specs.Memory.{SetsApart}
use Rattle.search_nogoods.proofs.Laws.{rests-length, apart_of, keeping_move, less-some}
use Rattle.search_nogoods.proofs.forget.Goals as goal

pub loop-e-preserved : goal.loop-e-preserved
loop-e-preserved c = let a = c.args in
    let l = c.loop-e in
    let m = c.move_entry in
    let s = c.set_of in
    let long : length s.result.now ≡ 9 = ap length s.ensures ∙ rests-length l.sm l.e (omega arith) (omega arith) in
    record {
      few = omega arith;
      long = omega arith;
      wide = omega arith;
      keeping = keeping_move a.sl.now a.sm.now a.set.now c.count-n.result l.kept l.e l.sl l.sm l.invariant.keeping m.new.sl m.new.sm (omega arith) (omega arith) (omega arith)
          (subst (λ x. SetsApart x a.set.now) s.ensures (apart_of _ _ _ long c.meet.ensures c.if-meet.false)) m.ensures;
    }

pub returns-clause-memory_less : goal.returns-clause-memory_less
returns-clause-memory_less c = let a = c.args in
    let l = c.loop-e in
    λ ll lm. less-some a.sl.now a.sm.now a.set.now c.count-n.result l.kept l.sl l.sm c.count-n.ensures.value (omega arith) (omega arith) l.invariant.keeping.kept
