use mathlib.Core.List.{List}
use mathlib.Core.Path.{refl, sym, ◌∙◌, subst}
use Prim.Native.Nat.{ℕ}
use Rattle.case_verdicts.specs.Tableau.{Good}
use Rattle.case_verdicts.specs.Sheets.{top}
use Rattle.case_verdicts.specs.Words.{state_of}
use Rattle.search_keys.proofs.Laws.{none-clash}
use Rattle.search_task.specs.Task.{sheet_by, goal_facts}
use Rattle.search_node.specs.Choices.{one_value}
use Rattle.search_node.specs.Node.{OpenState}
use Rattle.search_node.proofs.Choices.{shut_open}
use Rattle.search_node.proofs.Nodes.{read-given, read-clash, read-stray, read-good}
use borrow.Author.Rules.{rules}
use Rattle.search_node.proofs.by_walk.Goals as goal

pub returns-then-is_given-clause-node_by : goal.returns-then-is_given-clause-node_by
returns-then-is_given-clause-node_by c = let k = c.refute in
    let f = c.fill in
    let g = c.is_given in
    let l = c.read_all in
    let a = c.args in λ x r w whole. let given = g.ensures.goal_value x r (l.ensures.out_len_unchanged ∙ whole) c.if-is_given.true in
    subst (λ (n : List ℕ). OpenState a.p.now x (Good (sheet_by a.goal x)) a.ws.now f.new.set n) (sym k.ensures)
    (shut_open a.p.now x (Good (sheet_by a.goal x)) a.ws.now f.new.set (one_value 0) (one_value 0)
    (read-given a.p.now x r l.new.out a.goal w (l.ensures.out_len_unchanged ∙ whole) (l.ensures.n_after whole) f.ensures.0 given.0 given.1))

pub returns-then-clash-clause-node_by : goal.returns-then-clash-clause-node_by
returns-then-clash-clause-node_by c = let k = c.by_clash in
    let s = c.first_clash-clash in
    let l = c.read_all in
    let a = c.args in λ x r w whole. k.ensures.open_state x r w
    (read-clash a.p.now x r l.new.out a.goal w (l.ensures.out_len_unchanged ∙ whole) (l.ensures.n_after whole) s.result.some s.result.left s.result.right c.if-clash.true
    (s.ensures x r (l.ensures.out_len_unchanged ∙ whole)))

pub returns-in-Some-clause-node_by : goal.returns-in-Some-clause-node_by
returns-in-Some-clause-node_by c = let k = c.by_row in
    let l = c.read_all in
    let a = c.args in λ x r w whole. k.ensures.open_state x r w
    (read-stray a.p.now x r l.new.out a.goal w (l.ensures.out_len_unchanged ∙ whole) (l.ensures.n_after whole) _ _
    (c.in-Some.ensures.stray x r (l.ensures.out_len_unchanged ∙ whole)))

pub returns-clause-node_by : goal.returns-clause-node_by
returns-clause-node_by c = let f = c.first_clash-clash in
    let g = c.is_given in
    let l = c.read_all in
    let a = c.args in λ x r w whole. read-good a.p.now x r l.new.out a.goal w (l.ensures.out_len_unchanged ∙ whole) (l.ensures.n_after whole)
    (g.ensures.fact x r (l.ensures.out_len_unchanged ∙ whole) c.if-is_given.false)
    (none-clash a.p.now (goal_facts a.goal a.p.now (state_of top l.new.out)) f.result.some f.result.left f.result.right c.if-clash.false (f.ensures x r (l.ensures.out_len_unchanged ∙ whole)))
    (c.in_default.ensures.stray x r (l.ensures.out_len_unchanged ∙ whole))
