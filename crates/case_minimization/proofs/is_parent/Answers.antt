use Rattle.std.proofs.Common.{◌≡◌, ◌<◌, ◌+◌, ℕ, refl, rules, arith}
use Rattle.std.proofs.lemmas.Iterator.{cases_from_any, YieldsList-from_range}
use borrow.Author.Tests.{tests}
use Rattle.sheet_format.specs.Limits.{most_relations}
use Rattle.tableau_plan.specs.Plan.{parent_in}
use Rattle.tableau_parts.proofs.Places.{any-place, if-false}
use Rattle.case_minimization.proofs.Laws.{no-parent}
use Rattle.case_minimization.proofs.is_parent.Goals as goal

pub returns : goal.returns
returns c = let a = c.args in
    let Here : ℕ → Type 0 = λ k. parent_in a.p.now (k + 1) ≡ a.relation in
    let one = cases_from_any _ _ _ Here (λ k. Here k → ⊥) c.any.ensures.ran (YieldsList-from_range 0 most_relations _ refl refl) (λ k q r. search (rules, tests)) (λ k q r. search (rules, tests)) in
    λ long e.
    no-parent a.p.now most_relations a.relation long (omega arith)
    (if-false c.any.result ((k : ℕ) × (k < most_relations) × Here k) ((k : ℕ) → k < most_relations → Here k → ⊥) (any-place c.any.result most_relations Here (λ k. Here k → ⊥) one) e)
