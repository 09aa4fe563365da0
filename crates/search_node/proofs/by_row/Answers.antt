use mathlib.Core.List.{List}
use mathlib.Core.Path.{◌∙◌, sym, subst}
use Prim.Native.Nat.{ℕ}
use Rattle.case_verdicts.specs.Tableau.{Good}
use Rattle.search_task.specs.Task.{sheet_by}
use Rattle.search_node.specs.Choices.{one_value}
use Rattle.search_node.specs.Node.{OpenState}
use Rattle.search_node.proofs.Choices.{rows_open}
use Rattle.search_node.proofs.Open.{walk_open}
use borrow.Author.Rules.{rules}
use Rattle.search_node.proofs.by_row.Goals as goal

pub returns-in-Some-clause-open_state : goal.returns-in-Some-clause-open_state
returns-in-Some-clause-open_state c = let a = c.args in
    let k = c.rows_node in
    let o = c.open_row in
    let z = c.clear in λ x r w st. subst (λ (l : List ℕ). OpenState a.p.now x (Good (sheet_by a.goal x)) a.ws.now o.new.set l) (sym k.ensures)
    (rows_open a.p.now x (Good (sheet_by a.goal x)) a.ws.now o.new.set r c.in-Some.shown.view c.in-Some.shown.values (one_value 0) (c.in-Some.ensures.row_open x r w))

pub returns-clause-open_state : goal.returns-clause-open_state
returns-clause-open_state c = let a = c.args in
    let z = c.clear in
    let k = c.by_all-2 in λ x r w st. subst (λ (l : List ℕ). OpenState a.p.now x (Good (sheet_by a.goal x)) a.ws.now k.new.set l) (sym k.ensures.node_after)
    (rows_open a.p.now x (Good (sheet_by a.goal x)) a.ws.now k.new.set r a.stray.view a.stray.values (one_value 0)
    (walk_open a.p.now x r a.goal a.stray.view st.view a.ws.now a.stray.values k.new.set w.linked w.size k.ensures.by_index.0 st))
