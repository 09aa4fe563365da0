use Rattle.std.proofs.Common.{◌≡◌, length, arith, rules}
use Rattle.tableau_parts.proofs.Laws.{onward-far}
use Rattle.case_missing_answer.proofs.covered_to.Goals as goal

pub returns-then-below-clause-onward : goal.returns-then-below-clause-onward
returns-then-below-clause-onward c = let a = c.args in
    let k = c.in_ok-covered_from in
    let f = c.last_from-far in
    let size : length a.row ≡ 4 = search rules in
    λ ready lt g.
    onward-far a.p.now a.facts.now a.row f.result a.i k.field-0 (let h = k.ensures.in_row in omega arith) (search rules) size f.ensures c.if-below.ensures lt g (λ _. k.ensures.covered_at ready)
