-- The facts asked of are those of the state.
use mathlib.Core.Path.{sym, subst}
use Rattle.case_verdicts.specs.Sheets.{top}
use Rattle.case_verdicts.specs.Words.{state_of}
use Rattle.tableau_parts.specs.Views.{GivenToList}
use Rattle.search_task.specs.Task.{asked_row}
use Rattle.search_task.proofs.NodeLaws.{ready-views}
use Rattle.search_leaf.proofs.is_given.Goals as goal

pub returns-clause-fact : goal.returns-clause-fact
returns-clause-fact c = let s = c.args in
    let p = s.p.now in
    let row = asked_row p (state_of top s.ws.now) in
    let k = c.is_answered in λ x r size off on given. k.ensures.fact (ready-views p x r) size off on (subst (λ ns. GivenToList p ns row) (sym (c.write_facts-n.ensures.out_after x r size)) given)

pub returns-clause-goal_value : goal.returns-clause-goal_value
returns-clause-goal_value c = let s = c.args in
    let p = s.p.now in
    let row = asked_row p (state_of top s.ws.now) in
    let k = c.is_answered in λ x r size on.
    let (asked, given) = k.ensures.goal_value (ready-views p x r) size on in
    (asked, subst (λ ns. GivenToList p ns row) (c.write_facts-n.ensures.out_after x r size) given)
