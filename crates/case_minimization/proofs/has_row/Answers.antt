use Rattle.std.proofs.Common.{ℕ, false, ◌/◌, length, refl, rules}
use Rattle.std.proofs.lemmas.Iterator.{cases_from_any, YieldsList-from_range}
use Rattle.tableau_parts.proofs.Places.{any-place}
use Rattle.case_minimization.specs.Parts.{Like}
use Rattle.case_minimization.proofs.Laws.{finds-by}
use Rattle.case_minimization.proofs.has_row.Goals as goal

pub returns : goal.returns
returns c = λ p.
    let a = c.args in
    let n = length a.facts.now / 5 in
    let Here : ℕ → Type 0 = λ k. Like p false a.facts.now k a.relation a.row in
    let one = cases_from_any _ _ _ Here (λ k. Here k → ⊥) c.any.ensures.ran (YieldsList-from_range 0 n _ refl refl) (λ k q r. search rules) (λ k q r. search rules) in
    finds-by p c.any.result false a.facts.now a.relation a.row (any-place c.any.result n Here (λ k. Here k → ⊥) one)
