-- The elements of appended and gathered lists, and sums over lists.
use mathlib.Core.Path.{◌≡◌, refl, sym, subst}
use mathlib.Core.List.{List, [], ◌∷◌, map, ◌++◌}
use mathlib.Core.Logic.{◌⊎◌, inl, inr, ⊎_elim}
use Prim.Native.Nat.{ℕ, ◌+◌, ◌*◌}
use native.Mathlib.Nat.{zero-mul, suc-mul}
use native.Mathlib.Omega.{arith}
use lib.ListN.{length, length-append}
use Rattle.sheet_format.specs.Line.{gather}
use Rattle.query_meaning.specs.Meaning.{In}

-- ---- elements

pub in_left : {A : Type 0} (x : A) (l r : List A) → In x l → In x (l ++ r)
in_left {A = A} x [] r x'' = elim x'' [ ]
in_left x (y ∷ l) r (inl e) = inl e
in_left x (y ∷ l) r (inr m) = inr (in_left x l r m)

pub in_right : {A : Type 0} (x : A) (l r : List A) → In x r → In x (l ++ r)
in_right x [] r m = m
in_right x (y ∷ l) r m = inr (in_right x l r m)

pub in-cases : {A : Type 0} (x : A) (l r : List A) → In x (l ++ r) → In x l ⊎ In x r
in-cases x [] r m = inr m
in-cases x (y ∷ l) r (inl e) = inl (inl e)
in-cases x (y ∷ l) r (inr m) = ⊎_elim (λ h. inl (inr h)) (λ h. inr h) (in-cases x l r m)

pub in-gather : {A B : Type 0} (f : A → List B) (x : A) (y : B) (l : List A) → In x l → In y (f x) → In y (gather f l)
in-gather {A = A} {B = B} f x y [] x3 m = elim x3 [ ]
in-gather f x y (z ∷ l) (inl e) m = in_left y (f z) (gather f l) (subst (λ w. In y (f w)) e m)
in-gather f x y (z ∷ l) (inr h) m = in_right y (f z) (gather f l) (in-gather f x y l h m)

pub of_gather : {A B : Type 0} (f : A → List B) (y : B) (l : List A) → In y (gather f l) → (x : A) × In x l × In y (f x)
of_gather {A = A} {B = B} f y [] m = elim m [ ]
of_gather f y (z ∷ l) m = ⊎_elim (λ h. (z, inl refl, h)) (λ h. let (x, n, i) = of_gather f y l h in (x, inr n, i)) (in-cases y (f z) (gather f l) m)

-- ---- sums over lists

-- f of each element, added up
abbrev pub total : {A : Type 0} → (A → ℕ) → List A → ℕ
total f [] = 0
total f (x ∷ l) = f x + total f l

module _ {A : Type 0} where
  pub total-same : (f g : A → ℕ) → ((x : A) → f x ≡ g x) → (l : List A) → total f l ≡ total g l
  total-same f g same [] = refl
  total-same f g same (x ∷ l) = let h = same x in let r = total-same f g same l in omega arith

  pub total-each : (k : ℕ) (l : List A) → total (λ x. k) l ≡ length l * k
  total-each k [] = sym (zero-mul k)
  total-each k (x ∷ l) = let r = total-each k l in let e = suc-mul (length l) k in omega arith

  pub total_append : (f : A → ℕ) (l r : List A) → total f (l ++ r) ≡ total f l + total f r
  total_append f [] r = omega arith
  total_append f (x ∷ l) r = let h = total_append f l r in omega arith

  module _ {B : Type 0} where
    pub total-map : (f : B → ℕ) (g : A → B) (l : List A) → total f (map g l) ≡ total (λ x. f (g x)) l
    total-map f g [] = refl
    total-map f g (x ∷ l) = let r = total-map f g l in omega arith

    pub gather-length : (f : A → List B) (l : List A) → length (gather f l) ≡ total (λ x. length (f x)) l
    gather-length f [] = refl
    gather-length f (x ∷ l) = let h = length-append (f x) (gather f l) in let r = gather-length f l in omega arith
