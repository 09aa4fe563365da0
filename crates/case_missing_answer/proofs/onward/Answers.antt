use Rattle.std.proofs.Common.{◌≡◌, length, rules}
use Rattle.tableau_parts.proofs.Laws.{MachineWords, onward-same, room-same}
use Rattle.case_missing_answer.proofs.onward.Goals as goal

pub returns-then-pace-lt-ONE_BY_ONE-clause-onward : goal.returns-then-pace-lt-ONE_BY_ONE-clause-onward
returns-then-pace-lt-ONE_BY_ONE-clause-onward c = let a = c.args in λ ready lt g _. onward-same a.p.now a.facts.now a.row (a.i, lt, g)

pub returns-in-Some-clause-values_bound : goal.returns-in-Some-clause-values_bound
returns-in-Some-clause-values_bound c = let a = c.args in
    let far = c.in-Some.values in
    let size : length a.row ≡ 4 = search rules in
    let old : MachineWords a.row = λ q. search rules in
    let new : MachineWords far = λ q. search rules in
    room-same a.row far old new size c.in-Some.ensures.follows
