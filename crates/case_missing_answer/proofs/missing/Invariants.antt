use Rattle.std.proofs.Common.{is_some}
use Rattle.query_rows.specs.Rows.{row_values}
use Rattle.tableau_parts.proofs.Laws.{WalkAt}
use Rattle.tableau_parts.specs.Walks.{FormedPlan, room}
use Rattle.tableau_parts.specs.Views.{GivenToList}
use Rattle.case_missing_answer.proofs.missing.Given as goal

abbrev pub invariant-loop-next : goal.invariant-loop-next
invariant-loop-next l = FormedPlan l.p → WalkAt (GivenToList l.p l.facts) l.p 0 l.facts (is_some l.next) (row_values l.next)

abbrev pub decreases-loop-next : goal.decreases-loop-next
decreases-loop-next l = room (is_some l.next) (row_values l.next)
