use Rattle.std.proofs.Common.{ℕ, refl, rules, arith}
use Rattle.std.proofs.lemmas.Iterator.{cases_from_all, YieldsList-from_range}
use Rattle.tableau_layout.specs.Layout.{list_block}
use Rattle.tableau_dominance.specs.Dominated.{DominatesAt}
use Rattle.tableau_parts.proofs.Places.{all-yes}
use Rattle.tableau_dominance.proofs.lists_dominate.Goals as goal

pub returns : goal.returns
returns c = let a = c.args in
    let n = c.list_count-lists.result in
    let Here : ℕ → Type 0 = λ i. DominatesAt a.p.now (list_block i) a.facts.now a.k a.x a.y in
    let each = cases_from_all _ _ _ Here (λ _. Unit {0}) c.all.ensures.ran (YieldsList-from_range 0 n _ refl refl) (λ i q r. search rules) (λ i q r. tt) in
    λ ready yes i lt. all-yes c.all.result n Here (λ _. Unit {0}) each yes i (omega arith)
