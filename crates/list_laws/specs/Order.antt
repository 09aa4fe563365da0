-- Plain numbers compared from the first.
use Rattle.std.specs.Prelude.{◌≡◌, Bool, true, false, List, [], ◌∷◌, ◌⊎◌, ℕ, ◌<◌, get_or}

abbrev pub ◌⊏◌ : List ℕ → List ℕ → Type 0
[] ⊏ r = ⊥
(m ∷ l) ⊏ [] = ⊥
(m ∷ l) ⊏ (n ∷ r) = (m < n) ⊎ ((m ≡ n) × (l ⊏ r))

infix 20 ◌⊏◌
-- t and w agree at the places before p
pub record SameBefore (p : ℕ) (t w : List ℕ) : Type 0 where
  pub same : (q : ℕ) → q < p → get_or t q 0 ≡ get_or w q 0

-- t is below u; or it is u, or above
abbrev pub Compared : Bool → List ℕ → List ℕ → Type 0
Compared true t u = t ⊏ u
Compared false t u = (t ≡ u) ⊎ (u ⊏ t)
