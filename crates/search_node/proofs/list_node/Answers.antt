use mathlib.Core.List.{List}
use mathlib.Core.Path.{refl, sym, ◌∙◌, subst}
use mathlib.Core.Bool.{true≢false}
use Prim.Native.Nat.{ℕ}
use borrow.Author.Tests.{not-false}
use Rattle.case_verdicts.specs.Tableau.{Good}
use Rattle.search_task.specs.Task.{sheet_by}
use Rattle.search_node.specs.Choices.{one_value}
use Rattle.search_node.specs.Node.{OpenState}
use Rattle.search_node.proofs.Choices.{shut_open}
use Rattle.search_node.proofs.Nodes.{asked-rests}
use borrow.Author.Rules.{rules}
use Rattle.search_node.proofs.list_node.Goals as goal

pub returns-clause-open_state : goal.returns-clause-open_state
returns-clause-open_state c = let k = c.refute in
    let s = c.is_shut in
    let q = c.asks in
    let a = c.args in λ x r e. subst (λ (n : List ℕ). OpenState a.p.now x (Good (sheet_by a.goal x)) a.ws.now s.new.set n) (sym k.ensures)
    (shut_open a.p.now x (Good (sheet_by a.goal x)) a.ws.now s.new.set (one_value 0) (one_value 0)
    (asked-rests a.goal (sym q.ensures ∙ not-false q.result c.if-not-asks.false-raw) (s.ensures.rests_on x r (not-false s.result c.if-not-is_shut.false-raw))))
