use Rattle.std.proofs.Common.{refl, rules, ℕ}
use Rattle.std.proofs.lemmas.Iterator.{cases_from_any, YieldsList-from_range}
use Rattle.tableau_parts.specs.Walks.{RowIs}
use Rattle.tableau_parts.proofs.Laws.{listed-by}
use Rattle.tableau_parts.proofs.Places.{any-place}
use Rattle.tableau_parts.proofs.is_listed.Goals as goal

pub returns-then-n-le-MOST_ROWS : goal.returns-then-n-le-MOST_ROWS
returns-then-n-le-MOST_ROWS c = let a = c.args in
    let one = cases_from_any _ _ _ (λ (i : ℕ). RowIs a.p.now i a.v a.row) (λ i. RowIs a.p.now i a.v a.row → ⊥) c.any.ensures.ran (YieldsList-from_range 0 a.n _ refl refl)
    (λ i q k. search rules) (λ i q k. search rules) in
    λ few. listed-by c.any.result a.p.now a.n a.v a.row (any-place c.any.result a.n (λ i. RowIs a.p.now i a.v a.row) (λ i. RowIs a.p.now i a.v a.row → ⊥) one)
