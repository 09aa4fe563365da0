use mathlib.Core.Path.{sym, subst}
use mathlib.Core.List.{List}
use Prim.Native.Nat.{ℕ}
use Rattle.case_verdicts.specs.Tableau.{Good}
use Rattle.search_task.specs.Task.{sheet_by}
use Rattle.search_node.specs.Node.{Wordly}
use Rattle.search_step.specs.Run.{Remembers}
use Rattle.search_chase.proofs.Ahead.{judged-refuted}
use Rattle.search_chase.proofs.judge_state.Goals as goal

pub returns-then-learn_ahead-clause-judged_state : goal.returns-then-learn_ahead-clause-judged_state
returns-then-learn_ahead-clause-judged_state c = let a = c.args in
    let l = c.loop in
    let e = c.learn_ahead in λ x r w m whole.
    let g = l.invariant.5 x r w m in
    judged-refuted a.p.now x (sheet_by a.goal x) a.ws.now l.ws e.new.ws e.new.set c.refute.new.node l.out e.new.sl e.new.sm e.result c.if-learn_ahead.true g.0
    (e.ensures.learnt_ahead x r (subst (Wordly x (sheet_by a.goal x)) (sym g.0) w) (subst (λ (v : List ℕ). Remembers (Good (sheet_by a.goal x)) v l.sl l.sm) (sym g.0) g.1)) c.refute.ensures
