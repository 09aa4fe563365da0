use mathlib.Core.List.{List}
use mathlib.Core.Path.{sym, ◌∙◌, subst}
use Prim.Native.Nat.{ℕ, ◌+◌, ◌-◌, ◌*◌, ◌<◌, ◌≤◌}
use native.Mathlib.Omega.{arith}
use Rattle.sheet_format.specs.Limits.{most_rows}
use Rattle.case_verdicts.specs.Verdict.{Sheet}
use Rattle.case_verdicts.specs.Tableau.{Good}
use Rattle.search_task.specs.Task.{ReadyPlan, sheet_by}
use Rattle.search_task.specs.declared.Goal.{Goal}
use Rattle.search_node.specs.Choices.{how_many, LiveAt}
use Rattle.search_node.specs.Node.{Wordly}
use Rattle.search_node.proofs.Choices.{many-few}
use Rattle.search_step.specs.Run.{Going, RefutedAs}
use Rattle.search_step.proofs.Turns.{turn_at, is-turn-at}
use Rattle.search_step.proofs.Tries.{refuted-not, going_later, going_all, turn-refuted, turn-clashed, turn-taken}
use Rattle.search_step.proofs.next.Goals as goal

pub loop-i-preserved-then-not-is_turn : goal.loop-i-preserved-then-not-is_turn
loop-i-preserved-then-not-is_turn c = let a = c.args in
    let n = c.alternatives-count in
    let l = c.loop-i in
    let test = c.loop-i-test.true in
    let k = c.turn-k in
    let now = c.is_turn in
    let h = c.hint_of-hint in (
      l.invariant.0,
      l.invariant.1,
      λ x r goal w g.
          let many = n.ensures.exact (many-few a.node.now a.p.now r.plan.rows_few) in
          going_later a.p.now x (Good (sheet_by goal x)) a.ws.now a.node.now l.set l.i l.ws a.below.now a.last a.sl.now a.sm.now (l.invariant.2 x r goal w g)
          now.result c.if-not-is_turn.true (is-turn-at a.p.now a.node.now many l.i h.ensures now.result (now.ensures k.ensures.0)),
    )

pub loop-i-preserved-then-is_refuted : goal.loop-i-preserved-then-is_refuted
loop-i-preserved-then-is_refuted c = let a = c.args in
    let n = c.alternatives-count in
    let l = c.loop-i in
    let test = c.loop-i-test.true in
    let k = c.turn-k in
    let q = c.is_refuted in (
      l.invariant.0,
      c.is_refuted.ensures.set_len_unchanged ∙ l.invariant.1,
      λ x r goal w g.
          let many = n.ensures.exact (many-few a.node.now a.p.now r.plan.rows_few) in
          let is = turn_at a.p.now a.node.now many l.i k.result k.ensures.0 in
          let lt = k.ensures.1 test in
          turn-refuted a.p.now x r goal a.ws.now w a.node.now l.set l.i l.ws a.below.now a.last a.sl.now a.sm.now (l.invariant.2 x r goal w g) k.result is
          q.result q.new.set c.if-is_refuted.true (q.ensures.refuted_as (let m = n.ensures.limited in omega arith) (omega arith)),
    )

pub returns-then-take-clause-advanced : goal.returns-then-take-clause-advanced
returns-then-take-clause-advanced c = let a = c.args in
    let n = c.alternatives-count in
    let l = c.loop-i in
    let test = c.loop-i-test.true in
    let k = c.turn-k in
    let q = c.is_refuted in
    let t = c.take in λ x r goal w g.
    let many = n.ensures.exact (many-few a.node.now a.p.now r.plan.rows_few) in
    let is = turn_at a.p.now a.node.now many l.i k.result k.ensures.0 in
    let lt = k.ensures.1 test in
    let few : k.result < most_rows = let m = n.ensures.limited in omega arith in
    let inside : k.result < how_many a.p.now a.node.now = omega arith in
    let s = refuted-not q.result a.p.now l.ws a.node.now a.last k.result a.below.now a.sl.now a.sm.now l.set q.new.set c.if-is_refuted.false (q.ensures.refuted_as few inside) in
    turn-taken a.p.now x r goal a.ws.now w a.node.now q.new.set l.i l.ws a.below.now a.last a.sl.now a.sm.now
    (subst (λ (e : List ℕ). Going a.p.now x (Good (sheet_by goal x)) a.ws.now l.ws e a.node.now l.i a.below.now a.last a.sl.now a.sm.now) (sym s.1) (l.invariant.2 x r goal w g)) k.result is s.0
    t.result t.new.ws (t.ensures.equated_by few inside) c.if-take.true (omega arith)

pub loop-i-preserved : goal.loop-i-preserved
loop-i-preserved c = let a = c.args in
    let n = c.alternatives-count in
    let l = c.loop-i in
    let test = c.loop-i-test.true in
    let k = c.turn-k in
    let q = c.is_refuted in
    let t = c.take in (
      c.take.ensures.ws_len_unchanged ∙ l.invariant.0,
      c.is_refuted.ensures.set_len_unchanged ∙ l.invariant.1,
      λ x r goal w g.
          let many = n.ensures.exact (many-few a.node.now a.p.now r.plan.rows_few) in
          let is = turn_at a.p.now a.node.now many l.i k.result k.ensures.0 in
          let lt = k.ensures.1 test in
          let few : k.result < most_rows = let m = n.ensures.limited in omega arith in
          let inside : k.result < how_many a.p.now a.node.now = omega arith in
          let s = refuted-not q.result a.p.now l.ws a.node.now a.last k.result a.below.now a.sl.now a.sm.now l.set q.new.set c.if-is_refuted.false (q.ensures.refuted_as few inside) in
          turn-clashed a.p.now x r goal a.ws.now w a.node.now q.new.set l.i l.ws a.below.now a.last a.sl.now a.sm.now
          (subst (λ (e : List ℕ). Going a.p.now x (Good (sheet_by goal x)) a.ws.now l.ws e a.node.now l.i a.below.now a.last a.sl.now a.sm.now) (sym s.1) (l.invariant.2 x r goal w g)) k.result is s.0
          t.result t.new.ws (t.ensures.equated_by few inside) c.if-take.false,
    )

pub returns-clause-advanced : goal.returns-clause-advanced
returns-clause-advanced c = let a = c.args in
    let n = c.alternatives-count in
    let l = c.loop-i in λ x r goal w g.
    let many = n.ensures.exact (many-few a.node.now a.p.now r.plan.rows_few) in
    let z = c.loop-i-test.false in
    going_all a.p.now x (Good (sheet_by goal x)) a.ws.now a.node.now l.set l.i l.ws a.below.now a.last a.sl.now a.sm.now (l.invariant.2 x r goal w g) (omega arith)

pub returns-clause-lower_bound : goal.returns-clause-lower_bound
returns-clause-lower_bound c = let l = c.loop-i.invariant in (λ lt. absurd (omega arith), l.0, l.1)
