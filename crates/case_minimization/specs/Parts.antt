-- What finding a fact that another owes by a plan's table, and a pass over the facts, promise.
use Rattle.std.specs.Prelude.{◌≡◌, Bool, true, false, List, ℕ, ◌+◌, ◌*◌, ◌/◌, ◌<◌, length, get_or}
use Rattle.tableau_plan.specs.Plan.{parent_in}
use Rattle.tableau_parts.specs.Walks.{four_of}
use Rattle.case_minimization.specs.Minimization.{IsCase, without, SubFacts}

-- a relation, or its parent
abbrev pub relation_or_parent : List ℕ → Bool → ℕ → ℕ
relation_or_parent p true r = parent_in p r
relation_or_parent p false r = r

-- fact k is this row of the relation; or where `owing`, it owes the relation this row
abbrev pub Like : List ℕ → Bool → List ℕ → ℕ → ℕ → List ℕ → Type 0
Like p owing ns k relation row = (relation_or_parent p owing (get_or ns (k * 5) 0) ≡ relation) × (four_of ns (k * 5 + 1) ≡ row)

-- one of the facts is so
abbrev pub SomeLike : List ℕ → Bool → List ℕ → ℕ → List ℕ → Type 0
SomeLike p owing ns relation row = (k : ℕ) × (k < length ns / 5) × Like p owing ns k relation row

abbrev pub FindsBy : List ℕ → Bool → Bool → List ℕ → ℕ → List ℕ → Type 0
FindsBy p true owing ns relation row = SomeLike p owing ns relation row
FindsBy p false owing ns relation row = SomeLike p owing ns relation row → ⊥

-- one of the rest owes fact i, and none of them is that fact; or where one owes it, one is it
abbrev pub OwedBy : List ℕ → Bool → List ℕ → ℕ → List ℕ → Type 0
OwedBy p true ns i rest = (0 < get_or ns (i * 5) 0) × SomeLike p true rest (get_or ns (i * 5) 0) (four_of ns (i * 5 + 1)) × (SomeLike p false rest (get_or ns (i * 5) 0) (four_of ns (i * 5 + 1)) → ⊥)
OwedBy p false ns i rest = 0 < get_or ns (i * 5) 0 → SomeLike p true rest (get_or ns (i * 5) 0) (four_of ns (i * 5 + 1)) → SomeLike p false rest (get_or ns (i * 5) 0) (four_of ns (i * 5 + 1))

-- of n facts m are left, and they are a case; where they are still as many as `before`, none of the first i is to spare
pub record TriedFact (p ns : List ℕ) (n : ℕ) (ms : List ℕ) (m before i : ℕ) : Type 0 where
  pub part : SubFacts ns n ms m
  pub still : IsCase p ms
  pub needed : m ≡ before → (j : ℕ) → j < i → IsCase p (without ms j) → ⊥
