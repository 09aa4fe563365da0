use Rattle.std.proofs.Common.{◌<◌, ◌/◌, ℕ, length, get_or, refl, rules}
use Rattle.std.proofs.lemmas.Iterator.{cases_from_all, YieldsList-from_range}
use Rattle.query_join.specs.Joins.{Becomes}
use Rattle.tableau_parts.specs.Walks.{valued}
use Rattle.tableau_parts.proofs.Places.{all-yes}
use Rattle.tableau_witness_check.proofs.all_become.Goals as goal

pub returns : goal.returns
returns c = let a = c.args in
    let Met : ℕ → Type 0 = λ j. (get_or a.at j 0 < length a.facts.now / 5) × Becomes a.blk.now a.facts.now (valued a.vals.now) j (get_or a.at j 0) in
    let each = cases_from_all _ _ _ Met (λ _. Unit {0}) c.all.ensures.ran (YieldsList-from_range 0 a.n _ refl refl) (λ j q r. search rules) (λ j q r. tt) in
    λ yes.
    let met = all-yes c.all.result a.n Met (λ _. Unit {0}) each yes in
    record { inside = λ j lt. (met j lt).0; becomes = λ j lt. (met j lt).1 }
