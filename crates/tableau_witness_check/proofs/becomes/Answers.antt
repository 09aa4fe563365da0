use Rattle.std.proofs.Common.{◌≡◌, ◌+◌, ◌*◌, ℕ, get_or, refl, rules}
use Rattle.std.proofs.lemmas.Iterator.{cases_from_all, YieldsList-from_range}
use Rattle.query_join.specs.Joins.{value_of}
use Rattle.tableau_parts.specs.Walks.{valued}
use Rattle.tableau_parts.proofs.Places.{all-yes}
use Rattle.tableau_witness_check.proofs.becomes.Goals as goal

pub returns-then-facts-fact : goal.returns-then-facts-fact
returns-then-facts-fact c = let a = c.args in
    let Same : ℕ → Type 0 = λ k. get_or a.facts.now (a.i * 5 + 1 + k) 0 ≡ value_of (valued a.vals.now) (get_or a.blk.now (a.j * 5 + 1 + k) 0) in
    let each = cases_from_all _ _ _ Same (λ _. Unit {0}) c.all.ensures.ran (YieldsList-from_range 0 4 _ refl refl) (λ k q r. search rules) (λ k q r. tt) in
    λ yes. record { relation = c.if-facts-fact.true; columns = all-yes c.all.result 4 Same (λ _. Unit {0}) each yes }
