use Prim.Native.Nat.{◌<◌}
use native.Mathlib.Omega.{arith}
use borrow.Author.Tests.{not-true, not-false}
use Rattle.sheet_format.specs.Limits.{most_rows}
use Rattle.search_node.specs.Choices.{how_many}
use Rattle.search_node.proofs.Choices.{many-few}
use Rattle.search_chase.proofs.Ahead.{live-so, ahead-clashed, ahead-wordly, ahead-memory, ahead-left, ahead-unknown}
use Rattle.search_chase.proofs.learn_ahead.Goals as goal

pub returns-then-not-take-clause-learnt_ahead : goal.returns-then-not-take-clause-learnt_ahead
returns-then-not-take-clause-learnt_ahead c = let a = c.args in
    let t = c.take in
    let s = c.show_node in
    let node = s.new.node in
    let k = a.k in λ x r w m.
    let many = c.alternatives.ensures.exact (many-few node a.p.now r.plan.rows_few) in
    let few = c.alternatives.ensures.limited in
    let in-many = c.if-alternatives-k.false in
    let lt : k < how_many a.p.now node = omega arith in
    let low : k < most_rows = omega arith in
    ahead-clashed a.p.now x r a.goal a.ws.now w s.new.set node (s.ensures.open_state x r w (not-false s.result c.if-not-show_node.false-raw)) a.sl.now a.sm.now m k
    (live-so a.p.now node k lt c.is_live.result (not-false c.is_live.result c.if-not-is_live.false-raw) (c.is_live.ensures low))
    t.result t.new.ws (t.ensures.equated_by low lt) (not-true t.result c.if-not-take.true-raw)

pub returns-then-is_ended-clause-learnt_ahead : goal.returns-then-is_ended-clause-learnt_ahead
returns-then-is_ended-clause-learnt_ahead c = let d = c.leave in
    let a = c.args in
    let e = c.is_ended in
    let t = c.take in
    let s = c.show_node in
    let node = s.new.node in
    let set = s.new.set in
    let k = a.k in
    let on = not-false t.result c.if-not-take.false-raw in λ x r w m.
    let many = c.alternatives.ensures.exact (many-few node a.p.now r.plan.rows_few) in
    let few = c.alternatives.ensures.limited in
    let in-many = c.if-alternatives-k.false in
    let lt : k < how_many a.p.now node = omega arith in
    let low : k < most_rows = omega arith in
    let o = s.ensures.open_state x r w (not-false s.result c.if-not-show_node.false-raw) in
    let live = live-so a.p.now node k lt c.is_live.result (not-false c.is_live.result c.if-not-is_live.false-raw) (c.is_live.ensures low) in
    ahead-left a.p.now x r a.goal a.ws.now w set node o a.sl.now a.sm.now m k live t.result t.new.ws (t.ensures.equated_by low lt) on
    e.result e.new.ws e.new.set
    (e.ensures.looked_into x r (ahead-wordly a.p.now x r a.goal a.ws.now w set node o a.sl.now a.sm.now m k live t.result t.new.ws (t.ensures.equated_by low lt) on)
    (ahead-memory a.p.now x r a.goal a.ws.now w set node o a.sl.now a.sm.now m k live t.result t.new.ws (t.ensures.equated_by low lt) on))
    c.if-is_ended.true d.result d.new.ws d.new.below d.new.set d.new.sl d.new.sm (d.ensures.undone_by low lt)

pub returns-clause-learnt_ahead : goal.returns-clause-learnt_ahead
returns-clause-learnt_ahead c = let u = c.untake in
    let a = c.args in
    let e = c.is_ended in
    let t = c.take in
    let s = c.show_node in
    let node = s.new.node in
    let set = s.new.set in
    let k = a.k in
    let on = not-false t.result c.if-not-take.false-raw in λ x r w m.
    let many = c.alternatives.ensures.exact (many-few node a.p.now r.plan.rows_few) in
    let few = c.alternatives.ensures.limited in
    let in-many = c.if-alternatives-k.false in
    let lt : k < how_many a.p.now node = omega arith in
    let low : k < most_rows = omega arith in
    let o = s.ensures.open_state x r w (not-false s.result c.if-not-show_node.false-raw) in
    let live = live-so a.p.now node k lt c.is_live.result (not-false c.is_live.result c.if-not-is_live.false-raw) (c.is_live.ensures low) in
    ahead-unknown a.p.now x r a.goal a.ws.now w set node o a.sl.now a.sm.now m k live t.result t.new.ws (t.ensures.equated_by low lt) on
    e.result e.new.ws e.new.set
    (e.ensures.looked_into x r (ahead-wordly a.p.now x r a.goal a.ws.now w set node o a.sl.now a.sm.now m k live t.result t.new.ws (t.ensures.equated_by low lt) on)
    (ahead-memory a.p.now x r a.goal a.ws.now w set node o a.sl.now a.sm.now m k live t.result t.new.ws (t.ensures.equated_by low lt) on))
    u.new.ws (u.ensures.ws_after low lt)
