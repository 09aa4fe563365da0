-- Laws of the list functions that the definitions use, and of tests.
use mathlib.Core.Path.{◌≡◌, refl, sym, ap, ◌∙◌}
use mathlib.Core.Bool.{Bool, true, false, cond, ◌&&◌, ◌||◌}
use mathlib.Core.List.{List, [], ◌∷◌, ◌++◌, append_assoc}
pub use mathlib.Core.List.{append-nil}
use Prim.Native.Nat.{ℕ, zero, suc, ◌<◌}
use native.Mathlib.Omega.{arith}
use lib.Dec.{eqb}
use lib.ListN.{length, get_or, replicate}
pub use Rattle.list_laws.proofs.Lists.{map_append}
use Rattle.sheet_format.specs.Line.{all, gather}

-- ---- tests

pub no_way {ℓ} : {A : Type ℓ} → false ≡ true → A
no_way e = let z : ◌≡◌ {A = ℕ} 0 1 = cc in absurd (omega arith)

pub true-false {ℓ} : {A : Type ℓ} → true ≡ false → A
true-false e = no_way (sym e)

pub and_left : (a b : Bool) → (a && b) ≡ true → a ≡ true
and_left true b e = refl
and_left false b e = e

pub and_right : (a b : Bool) → (a && b) ≡ true → b ≡ true
and_right true b e = e
and_right false b e = no_way e

pub both : (a b : Bool) → (a && b) ≡ true → (a ≡ true) × (b ≡ true)
both a b e = (and_left a b e, and_right a b e)

pub neither : (a b : Bool) → (a || b) ≡ false → (a ≡ false) × (b ≡ false)
neither true b e = no_way (sym e)
neither false b e = (refl, e)

-- a test that was passed on the way to 0
pub passed : (t : Bool) (m x : ℕ) → eqb m 0 ≡ false → eqb (cond t m x) 0 ≡ true → (t ≡ false) × (eqb x 0 ≡ true)
passed true m x f e = no_way (sym f ∙ e)
passed false m x f e = (refl, e)

pub and_both : (a b : Bool) → a ≡ true → b ≡ true → (a && b) ≡ true
and_both a b e f = ap (λ x. x && b) e ∙ f

-- ---- all

pub all_append : {A : Type 0} (p : A → Bool) (l r : List A) → all p l ≡ true → all p r ≡ true → all p (l ++ r) ≡ true
all_append p [] r h k = k
all_append p (x ∷ l) r h k = and_both (p x) (all p (l ++ r)) (and_left (p x) (all p l) h) (all_append p l r (and_right (p x) (all p l) h) k)

-- what holds at each index holds of all
pub all_index : {A : Type 0} (p : A → Bool) (d : A) (l : List A) → ((i : ℕ) → i < length l → p (get_or l i d) ≡ true) → all p l ≡ true
all_index p d [] h = refl
all_index p d (x ∷ l) h = and_both (p x) (all p l) (h 0 (omega arith)) (all_index p d l (λ i lt. h (suc i) (omega arith)))

pub all-at : {A : Type 0} (p : A → Bool) (d : A) (l : List A) → all p l ≡ true → (i : ℕ) → i < length l → p (get_or l i d) ≡ true
all-at p d [] h i lt = absurd (omega arith)
all-at p d (x ∷ l) h zero lt = and_left (p x) (all p l) h
all-at p d (x ∷ l) h (suc i) lt = all-at p d l (and_right (p x) (all p l) h) i (omega arith)

pub all_replicate : {A : Type 0} (p : A → Bool) (n : ℕ) (a : A) → p a ≡ true → all p (replicate n a) ≡ true
all_replicate p zero a h = refl
all_replicate p (suc n) a h = and_both (p a) (all p (replicate n a)) h (all_replicate p n a h)

-- ---- gather

pub gather_append : {A B : Type 0} (f : A → List B) (l r : List A) → gather f (l ++ r) ≡ gather f l ++ gather f r
gather_append f [] r = refl
gather_append f (x ∷ l) r = ap (λ t. f x ++ t) (gather_append f l r) ∙ sym (append_assoc (f x) (gather f l) (gather f r))
