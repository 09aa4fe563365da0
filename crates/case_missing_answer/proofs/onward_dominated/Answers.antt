use Rattle.std.proofs.Common.{◌≡◌, length, rules}
use Rattle.tableau_parts.proofs.Laws.{MachineWords, onward-same, room-same}
use Rattle.case_missing_answer.proofs.onward_dominated.Goals as goal

pub returns-then-pace-k-clause-onward : goal.returns-then-pace-k-clause-onward
returns-then-pace-k-clause-onward c = let a = c.args in λ _ g _. onward-same a.p.now a.facts.now a.row g

pub returns-in_default-dominated_to-clause-onward : goal.returns-in_default-dominated_to-clause-onward
returns-in_default-dominated_to-clause-onward c = let a = c.args in λ _ g _. onward-same a.p.now a.facts.now a.row g

pub returns-clause-values_bound : goal.returns-clause-values_bound
returns-clause-values_bound c = let a = c.args in
    let far = c.in-Some-dominated_to.far in
    let size : length a.row ≡ 4 = search rules in
    let old : MachineWords a.row = λ q. search rules in
    let new : MachineWords far = λ q. search rules in
    room-same a.row far old new size c.in-Some-dominated_to.ensures.follows
