use mathlib.Core.Path.{◌≡◌, ap, ◌∙◌}
use Prim.Native.Nat.{◌-◌}
use native.Mathlib.Omega.{arith}
use Rattle.sheet_format.specs.Limits.{most_rows}
use Rattle.case_verdicts.specs.Tableau.{Good}
use Rattle.search_task.specs.Task.{sheet_by}
use Rattle.search_node.proofs.Choices.{many-few}
use Rattle.search_step.specs.Run.{turn_of}
use Rattle.search_step.proofs.Turns.{turn_at}
use Rattle.search_step.proofs.Tries.{going_first}
use Rattle.search_step.proofs.Onward.{from-kept, left_jumped, left-kept, left_going}
use Rattle.search_chase.proofs.advance.Goals as goal

pub returns-then-from-eq0-clause-advanced : goal.returns-then-from-eq0-clause-advanced
returns-then-from-eq0-clause-advanced c = let a = c.args in
    let z = c.if-from-eq0.true in
    let q = c.next in λ x r old w b.
    let f = b.first z in
    from-kept a.p.now x (sheet_by a.goal x) a.ws.now old a.set.now a.node.now 0 a.below.now most_rows a.sl.now a.sm.now q.new.set q.result q.new.ws f.0
    (q.ensures.advanced x r a.goal) w
    (going_first a.p.now x (Good (sheet_by a.goal x)) old a.node.now a.ws.now a.set.now f.0 f.1 a.below.now most_rows (many-few a.node.now a.p.now r.plan.rows_few) a.sl.now a.sm.now f.2)

pub returns-then-jump-clause-advanced : goal.returns-then-jump-clause-advanced
returns-then-jump-clause-advanced c = let a = c.args in
    let z = c.if-from-eq0.false in
    let n = c.alternatives in
    let k = c.turn-k in
    let d = c.leave-jump in λ x r old w b.
    let u = b.later (omega arith) in
    let t = u.0 in
    let few = many-few a.node.now a.p.now r.plan.rows_few in
    let many = n.ensures.exact few in
    let back : a.i.now - 1 ≡ t.turn = let e = t.after in omega arith in
    let is = turn_at a.p.now a.node.now many t.turn k.result (k.ensures.0 ∙ ap (turn_of n.result) back) in
    let inside = t.live.inside in
    left_jumped a.p.now x r a.goal old w a.set.now a.node.now a.i.now a.ws.now a.sl.now a.sm.now t k.result is a.below.now u.1
    d.result d.new.ws d.new.below d.new.set d.new.sl d.new.sm
    (λ lt. d.ensures.undone_by (omega arith) lt (sheet_by a.goal x)) c.if-jump.true

pub returns-clause-advanced : goal.returns-clause-advanced
returns-clause-advanced c = let a = c.args in
    let z = c.if-from-eq0.false in
    let n = c.alternatives in
    let k = c.turn-k in
    let d = c.leave-jump in
    let off = c.if-jump.false in
    let q = c.next-2 in λ x r old w b.
    let u = b.later (omega arith) in
    let t = u.0 in
    let few = many-few a.node.now a.p.now r.plan.rows_few in
    let many = n.ensures.exact few in
    let back : a.i.now - 1 ≡ t.turn = let e = t.after in omega arith in
    let is = turn_at a.p.now a.node.now many t.turn k.result (k.ensures.0 ∙ ap (turn_of n.result) back) in
    let inside = t.live.inside in
    from-kept a.p.now x (sheet_by a.goal x) d.new.ws old d.new.set a.node.now a.i.now d.new.below k.result d.new.sl d.new.sm q.new.set q.result q.new.ws
    (left-kept a.p.now x r a.goal old w a.set.now a.node.now a.i.now a.ws.now a.sl.now a.sm.now t k.result is a.below.now u.1
    d.result d.new.ws d.new.below d.new.set d.new.sl d.new.sm
    (λ lt. d.ensures.undone_by (omega arith) lt (sheet_by a.goal x)) off)
    (q.ensures.advanced x r a.goal) w
    (left_going a.p.now x r a.goal old w a.set.now a.node.now a.i.now a.ws.now a.sl.now a.sm.now t k.result is a.below.now u.1
    d.result d.new.ws d.new.below d.new.set d.new.sl d.new.sm
    (λ lt. d.ensures.undone_by (omega arith) lt (sheet_by a.goal x)) off)
