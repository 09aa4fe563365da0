use mathlib.Core.Path.{◌≡◌, refl, ap, ◌∙◌}
use Prim.Native.Nat.{◌-◌}
use native.Mathlib.Omega.{arith}
use Rattle.sheet_format.specs.Limits.{most_rows}
use Rattle.case_verdicts.specs.Tableau.{Good}
use Rattle.search_task.specs.Task.{sheet_by}
use Rattle.search_node.proofs.Choices.{many-few}
use Rattle.search_step.specs.Run.{turn_of}
use Rattle.search_step.proofs.Turns.{turn_at}
use Rattle.search_step.proofs.Tries.{going_first}
use Rattle.search_chase.proofs.Ahead.{closed-so, closed-not}
use Rattle.search_chase.proofs.is_closed.Goals as goal

pub returns-then-i-eq0-clause-looked_into : goal.returns-then-i-eq0-clause-looked_into
returns-then-i-eq0-clause-looked_into c = let q = c.next-i in
    let a = c.args in λ x r goal w o m.
    closed-so
    (q.ensures.advanced x r goal w
    (going_first a.p.now x (Good (sheet_by goal x)) a.ws.now a.node.now a.ws.now a.set.now refl o c.none-none.result most_rows (many-few a.node.now a.p.now r.plan.rows_few) a.sl.now a.sm.now m))
    c.if-i-eq0.true

pub returns-clause-looked_into : goal.returns-clause-looked_into
returns-clause-looked_into c = let u = c.untake in
    let k = c.turn-k in
    let n = c.alternatives in
    let z = c.if-i-eq0.false in
    let q = c.next-i in
    let a = c.args in λ x r goal w o m.
    let few = many-few a.node.now a.p.now r.plan.rows_few in
    let many = n.ensures.exact few in
    let t =
    (q.ensures.advanced x r goal w
    (going_first a.p.now x (Good (sheet_by goal x)) a.ws.now a.node.now a.ws.now a.set.now refl o c.none-none.result most_rows few a.sl.now a.sm.now m)).on (omega arith) in
    let back : q.result - 1 ≡ t.turn = let e = t.after in omega arith in
    let is = turn_at a.p.now a.node.now many t.turn k.result (k.ensures.0 ∙ ap (turn_of n.result) back) in
    closed-not t k.result is few u.new.ws u.ensures.ws_after
