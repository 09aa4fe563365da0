use mathlib.Core.List.{List}
use mathlib.Core.Path.{sym, subst}
use mathlib.Core.Bool.{true≢false}
use Prim.Native.Nat.{ℕ}
use borrow.Author.Tests.{not-false}
use Rattle.case_verdicts.specs.Tableau.{Good}
use Rattle.search_task.specs.Task.{sheet_by}
use Rattle.search_node.specs.Choices.{one_value}
use Rattle.search_node.specs.Node.{OpenState}
use Rattle.search_node.proofs.Choices.{rows_open}
use borrow.Author.Rules.{rules}
use Rattle.search_node.proofs.view_node.Goals as goal

pub returns-clause-open_state : goal.returns-clause-open_state
returns-clause-open_state c = let a = c.args in
    let k = c.rows_node in
    let o = c.open_row in λ x r w e. subst (λ (n : List ℕ). OpenState a.p.now x (Good (sheet_by a.goal x)) a.ws.now o.new.set n) (sym k.ensures)
    (rows_open a.p.now x (Good (sheet_by a.goal x)) a.ws.now o.new.set r c.in-Some.shown.view c.in-Some.shown.values (one_value a.hint) (c.in-Some.ensures.row_open x r w))
