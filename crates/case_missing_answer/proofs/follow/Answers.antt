use Rattle.std.proofs.Common.{rules}
use Rattle.query_rows.specs.Rows.{zeros}
use Rattle.tableau_parts.proofs.Laws.{MachineWords, room_falls, room-ends}
use Rattle.case_missing_answer.proofs.follow.Goals as goal

pub returns-then-not-below-clause-values_bound : goal.returns-then-not-below-clause-values_bound
returns-then-not-below-clause-values_bound c = rw c.in-Some.is (λ _. room-ends c.in-Some.old zeros)

pub returns-else-not-below-clause-values_bound : goal.returns-else-not-below-clause-values_bound
returns-else-not-below-clause-values_bound c =
    let old : MachineWords c.in-Some.old = λ q. search rules in
    let new : MachineWords c.in-Some-next.new = λ q. search rules in
    rw c.in-Some.is (λ _. room_falls _ c.in-Some.old c.in-Some-next.new old new (search rules) c.if-not-below.ensures)

pub returns-in_default-next-clause-values_bound : goal.returns-in_default-next-clause-values_bound
returns-in_default-next-clause-values_bound c = rw (c.in-Some.is, c.in_default-next.is) (λ _. room-ends c.in-Some.old zeros)
