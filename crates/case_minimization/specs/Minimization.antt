-- Cases in plain numbers, and dropping facts from them. No promise to a caller rests on these.
use Rattle.std.specs.Prelude.{◌≡◌, Bool, true, false, List, ◌++◌, ℕ, ◌+◌, ◌*◌, ◌/◌, ◌<◌, length, get_or, take, drop}
use Rattle.tableau_plan.specs.Plan.{parent_in}
use Rattle.tableau_parts.specs.Views.{Agree, Missing}
use Rattle.tableau_parts.specs.Walks.{four_of}

-- fact k is this row of the relation
abbrev pub IsFact : List ℕ → ℕ → ℕ → List ℕ → Type 0
IsFact ns k relation row = (get_or ns (k * 5) 0 ≡ relation) × (four_of ns (k * 5 + 1) ≡ row)

-- the facts have each row that one of them owes to its relation's parent, by a plan's table
abbrev pub Parented : List ℕ → List ℕ → Type 0
Parented p ns = (i : ℕ) → i < length ns / 5 → 0 < parent_in p (get_or ns (i * 5) 0) → (k : ℕ) × (k < length ns / 5) × IsFact ns k (parent_in p (get_or ns (i * 5) 0)) (four_of ns (i * 5 + 1))

-- facts that agree with the listed rows, give the question a row that they give no list, and owe none that they lack
abbrev pub IsCase : List ℕ → List ℕ → Type 0
IsCase p ns = Agree p ns × ((u : List ℕ) × Missing p ns u) × Parented p ns

abbrev pub CaseBy : Bool → List ℕ → List ℕ → Type 0
CaseBy true p ns = IsCase p ns
CaseBy false p ns = IsCase p ns → ⊥

-- the numbers without fact i
abbrev pub without : List ℕ → ℕ → List ℕ
without ns i = take (i * 5) ns ++ drop (i * 5 + 5) ns

-- the m facts of `ms` are some of the n facts of `ns`, in their order
pub record SubFacts (ns : List ℕ) (n : ℕ) (ms : List ℕ) (m : ℕ) : Type 0 where
  pub from : ℕ → ℕ
  pub inside : (i : ℕ) → i < m → from i < n
  pub rising : (i j : ℕ) → i < j → j < m → from i < from j
  pub same : (i : ℕ) → i < m → (c : ℕ) → c < 5 → get_or ms (i * 5 + c) 0 ≡ get_or ns (from i * 5 + c) 0

-- a case is left, some of the facts, and no case is left without one more of them
pub record Shrunk (p ns : List ℕ) (n : ℕ) (ms : List ℕ) (m : ℕ) : Type 0 where
  pub count : length ms ≡ m * 5
  pub part : SubFacts ns n ms m
  pub still : IsCase p ms
  pub spare_free : (i : ℕ) → i < m → IsCase p (without ms i) → ⊥
