-- The elements of a list, by their places and under a map.
use mathlib.Core.Path.{◌≡◌, refl, sym, ap}
use mathlib.Core.List.{List, [], ◌∷◌, map}
use mathlib.Core.Logic.{inl, inr}
use Prim.Native.Nat.{ℕ, zero, suc, ◌<◌}
use native.Mathlib.Omega.{arith}
use lib.ListN.{length, get_or}
use Rattle.query_meaning.specs.Meaning.{In}

-- what stands at a place is an element
pub at_in : {A : Type 0} (d : A) (l : List A) (i : ℕ) → i < length l → In (get_or l i d) l
at_in d [] i lt = absurd (omega arith)
at_in d (x ∷ l) zero lt = inl refl
at_in d (x ∷ l) (suc i) lt = inr (at_in d l i (omega arith))

-- and an element stands at a place
pub in-at : {A : Type 0} (d x : A) (l : List A) → In x l → (i : ℕ) × (i < length l) × (get_or l i d ≡ x)
in-at d x [] h = absurd h
in-at d x (y ∷ l) (inl e) = (0, omega arith, sym e)
in-at d x (y ∷ l) (inr h) = let (i, lt, e) = in-at d x l h in (suc i, omega arith, e)

pub in_map : {A B : Type 0} (f : A → B) (x : A) (l : List A) → In x l → In (f x) (map f l)
in_map f x [] h = h
in_map f x (y ∷ l) (inl e) = inl (ap f e)
in_map f x (y ∷ l) (inr h) = inr (in_map f x l h)

pub map_in : {A B : Type 0} (f : A → B) (y : B) (l : List A) → In y (map f l) → (x : A) × In x l × (y ≡ f x)
map_in f y [] h = absurd h
map_in f y (x ∷ l) (inl e) = (x, inl refl, e)
map_in f y (x ∷ l) (inr h) = let (z, m, e) = map_in f y l h in (z, inr m, e)
