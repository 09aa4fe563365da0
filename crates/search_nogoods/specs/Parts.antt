-- What the steps over a table of values promise one another.
use Rattle.std.specs.Prelude.{◌≡◌, List, ℕ, ◌<◌, Option, Some, None}
use Rattle.search_nogoods.specs.Memory.{memory_slot, memory_value, memory_set, memory_count, SameValue, SetsApart}
use Rattle.search_nogoods.specs.Sizes.{most_values}

-- none of the first k entries has slot n and value w
pub record NoValueTo (sl : List ℕ) (n w k : ℕ) : Type 0 where
  pub none : (e : ℕ) → e < k → memory_slot sl e ≡ n → memory_value sl e ≡ w → ⊥

-- the first entry for slot n and value w, or none of all
abbrev pub FoundValue : List ℕ → ℕ → ℕ → Option ℕ → Type 0
FoundValue sl n w None = NoValueTo sl n w (memory_count sl)
FoundValue sl n w (Some e) = (e < memory_count sl) × (memory_slot sl e ≡ n) × (memory_value sl e ≡ w) × NoValueTo sl n w e

-- entry e rests on the set, and the others on what they did
pub record SetStored (sm : List ℕ) (e : ℕ) (set tm : List ℕ) : Type 0 where
  pub here : memory_set tm e ≡ set
  pub others : (f : ℕ) → f < most_values → (f ≡ e → ⊥) → memory_set tm f ≡ memory_set sm f

-- entry `to` is what entry `from` was, and the others are as before
pub record ValueMoved (sl sm : List ℕ) (from to : ℕ) (tl tm : List ℕ) : Type 0 where
  pub here : SameValue tl tm to sl sm from
  pub others : (f : ℕ) → f < most_values → (f ≡ to → ⊥) → SameValue tl tm f sl sm f

-- the first k entries are such of the first n before that rest on no slot of the set
pub record KeptApart (sl sm set : List ℕ) (n k : ℕ) (tl tm : List ℕ) : Type 0 where
  pub each : (f : ℕ) → f < k → (e : ℕ) × (e < n) × SameValue tl tm f sl sm e × SetsApart (memory_set sm e) set
