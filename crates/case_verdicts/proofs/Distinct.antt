-- Dropping an element, and lists in which no element stands twice.
use mathlib.Core.Path.{◌≡◌, refl, sym, ◌∙◌, subst}
use mathlib.Core.List.{List, [], ◌∷◌}
use mathlib.Core.Logic.{◌⊎◌, inl, inr, ⊎_elim}
use Prim.Native.Nat.{suc, ◌<◌, ◌≤◌}
use native.Mathlib.Omega.{arith}
use lib.ListN.{length}
use Rattle.query_meaning.specs.Meaning.{In}
use Rattle.case_verdicts.specs.Handed.{Distinct}

module _ {A : Type 0} (eq : Discrete A) where
  abbrev pub drop-if : {P : Type 0} → Dec P → A → List A → List A
  drop-if (yes e) y l = l
  drop-if (no n) y l = y ∷ l

  -- every x taken out
  abbrev pub taken_out : A → List A → List A
  taken_out x [] = []
  taken_out x (y ∷ l) = drop-if (eq y x) y (taken_out x l)

  pub of_without : (x z : A) (l : List A) → In z (taken_out x l) → In z l × (z ≡ x → ⊥)
  of_without x z [] m = elim m [ ]
  of_without x z (y ∷ l) m = go (of_without x z l) (eq y x) m
    where
      go : (In z (taken_out x l) → In z l × (z ≡ x → ⊥)) → (d : Dec (y ≡ x)) → In z (drop-if d y (taken_out x l)) → In z (y ∷ l) × (z ≡ x → ⊥)
      go rec (yes e) i = (inr (rec i).0, (rec i).1)
      go rec (no n) (inl e) = (inl e, λ p. n (sym e ∙ p))
      go rec (no n) (inr i) = (inr (rec i).0, (rec i).1)

  pub in_without : (x z : A) (l : List A) → In z l → (z ≡ x → ⊥) → In z (taken_out x l)
  in_without x z [] m ne = elim m [ ]
  in_without x z (y ∷ l) m ne = go (λ i. in_without x z l i ne) (eq y x) m
    where
      go : (In z l → In z (taken_out x l)) → (d : Dec (y ≡ x)) → In z (y ∷ l) → In z (drop-if d y (taken_out x l))
      go rec (yes e) (inl p) = absurd (ne (p ∙ e))
      go rec (yes e) (inr i) = rec i
      go rec (no n) (inl p) = inl p
      go rec (no n) (inr i) = inr (rec i)

  without-most : (x : A) (l : List A) → length (taken_out x l) ≤ length l
  without-most x [] = omega arith
  without-most x (y ∷ l) = go (without-most x l) (eq y x)
    where
      go : length (taken_out x l) ≤ length l → (d : Dec (y ≡ x)) → length (drop-if d y (taken_out x l)) ≤ suc (length l)
      go h (yes e) = omega arith
      go h (no n) = omega arith

  pub without_fewer : (x : A) (l : List A) → In x l → length (taken_out x l) < length l
  without_fewer x [] m = elim m [ ]
  without_fewer x (y ∷ l) m = go (λ i. without_fewer x l i) (without-most x l) (eq y x) m
    where
      go : (In x l → length (taken_out x l) < length l) → length (taken_out x l) ≤ length l → (d : Dec (y ≡ x)) → In x (y ∷ l) → length (drop-if d y (taken_out x l)) < suc (length l)
      go rec h (yes e) i = omega arith
      go rec h (no n) (inl p) = absurd (n (sym p))
      go rec h (no n) (inr i) = let k = rec i in omega arith

  pub without-distinct : (x : A) (l : List A) → Distinct l → Distinct (taken_out x l)
  without-distinct x [] d = tt
  without-distinct x (y ∷ l) (out, d) = go (without-distinct x l d) (eq y x)
    where
      go : Distinct (taken_out x l) → (e : Dec (y ≡ x)) → Distinct (drop-if e y (taken_out x l))
      go rec (yes e) = rec
      go rec (no n) = ((λ i. out (of_without x y l i).0), rec)

  -- what has no element twice is at most as long as a list with the same elements
  pub at_most : (l r : List A) → Distinct l → ((x : A) → In x l → In x r) → length l ≤ length r
  at_most [] r d sub = omega arith
  at_most (x ∷ l) r (out, d) sub =
      let h = at_most l (taken_out x r) d (λ z m. in_without x z r (sub z (inr m)) (λ e. out (subst (λ u. In u l) e m))) in
      let k = without_fewer x r (sub x (inl refl)) in
      omega arith

  -- every element at its first place
  abbrev pub once : List A → List A
  once [] = []
  once (x ∷ l) = x ∷ taken_out x (once l)

  pub of_once : (z : A) (l : List A) → In z (once l) → In z l
  of_once z [] x' = elim x' [ ]
  of_once z (x ∷ l) (inl e) = inl e
  of_once z (x ∷ l) (inr m) = inr (of_once z l (of_without x z (once l) m).0)

  pub in-once : (z : A) (l : List A) → In z l → In z (once l)
  in-once z [] m = elim m [ ]
  in-once z (x ∷ l) m = go (λ i. in-once z l i) (eq z x) m
    where
      go : (In z l → In z (once l)) → Dec (z ≡ x) → In z (x ∷ l) → In z (once (x ∷ l))
      go rec (yes e) i = inl e
      go rec (no n) (inl e) = inl e
      go rec (no n) (inr i) = inr (in_without x z (once l) (rec i) n)

  pub once-distinct : (l : List A) → Distinct (once l)
  once-distinct [] = tt
  once-distinct (x ∷ l) = ((λ m. (of_without x x (once l) m).1 refl), without-distinct x (once l) (once-distinct l))

  pub in-or : (x : A) (l : List A) → In x l ⊎ (In x l → ⊥)
  in-or x [] = inr (λ m. m)
  in-or x (y ∷ l) = go (in-or x l) (eq x y)
    where
      go : In x l ⊎ (In x l → ⊥) → Dec (x ≡ y) → In x (y ∷ l) ⊎ (In x (y ∷ l) → ⊥)
      go rec (yes e) = inl (inl e)
      go (inl m) (no n) = inl (inr m)
      go (inr out) (no n) = inr (⊎_elim n out)
