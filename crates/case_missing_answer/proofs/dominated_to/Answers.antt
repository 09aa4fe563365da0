use Rattle.std.proofs.Common.{◌≡◌, length, rules}
use Rattle.case_missing_answer.proofs.Laws.{onward-to}
use Rattle.case_missing_answer.proofs.dominated_to.Goals as goal

pub returns-then-below-clause-onward : goal.returns-then-below-clause-onward
returns-then-below-clause-onward c = let a = c.args in
    let e = c.in_ok-end in
    let f = c.last_from-far in
    let size : length a.row ≡ 4 = search rules in
    λ ready _ below. onward-to a.p.now a.facts.now a.row f.result a.k e.end (search rules) size (search rules) f.ensures c.if-end-row.false (e.ensures ready) below
