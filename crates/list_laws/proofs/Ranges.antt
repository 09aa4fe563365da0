-- Stores that go up one by one from a place, and what they keep.
use mathlib.Core.Path.{◌≡◌, refl, sym, ap, ◌∙◌, subst}
use mathlib.Core.List.{List}
use Prim.Native.Nat.{ℕ, ◌+◌, ◌-◌, ◌<◌, ◌≤◌}
use native.Mathlib.Omega.{arith}
use native.Mathlib.Decide.{dec_lt}
use lib.ListN.{length, get_or, set, length-set}
use lib.Seq.{get_or-set_same, get_or-set_other}
use Rattle.list_laws.specs.Kept.{Kept, Filled}

-- a function that counts from a place
pub shifted : {A : Type 0} → ℕ → (ℕ → A) → ℕ → A
shifted at f y = f (y - at)

module _ {A : Type 0} {d : A} where
  -- ---- what is kept

  pub kept-none : (p : List A) (a b : ℕ) → Kept d p p a b
  kept-none p a b = record { same = refl; below = λ y h. refl; above = λ y h. refl }

  pub kept_set : (p q : List A) (a b i : ℕ) (v : A) → a ≤ i → i < b → Kept d p q a b → Kept d p (set q i v) a b
  kept_set p q a b i v ge lt k = record {
    same = length-set q i v ∙ k.same;
    below = λ y h. get_or-set_other q i y v d (λ e. absurd (omega arith)) ∙ k.below y h;
    above = λ y h. get_or-set_other q i y v d (λ e. absurd (omega arith)) ∙ k.above y h;
  }

  pub kept-wide : (p q : List A) (a b c e : ℕ) → c ≤ a → b ≤ e → Kept d p q a b → Kept d p q c e
  kept-wide p q a b c e ge le k = record {
    same = k.same;
    below = λ y h. k.below y (omega arith);
    above = λ y h. k.above y (omega arith);
  }

  pub kept_more : (p q r : List A) (a b : ℕ) → Kept d p q a b → Kept d q r a b → Kept d p r a b
  kept_more p q r a b k l = record {
    same = l.same ∙ k.same;
    below = λ y h. l.below y h ∙ k.below y h;
    above = λ y h. l.above y h ∙ k.above y h;
  }

  -- ---- a loop that stores the values of f, place by place

  pub filled_none : (p : List A) (at : ℕ) (f : ℕ → A) → Filled d p p at at f
  filled_none p at f = record { kept = kept-none p at at; each = λ y ge lt. absurd (omega arith) }

  pub filled_more : (p q : List A) (at to : ℕ) (v : A) (f : ℕ → A) → to < length p → at ≤ to → v ≡ f to → Filled d p q at to f → Filled d p (set q to v) at (to + 1) f
  filled_more p q at to v f room ge e h = record {
    kept = kept_set p q at (to + 1) to v ge (omega arith) (kept-wide p q at to at (to + 1) (omega arith) (omega arith) h.kept);
    each = λ y le lt. go y le lt (dec_lt y to);
  }
    where
      go : (y : ℕ) → at ≤ y → y < to + 1 → Dec (y < to) → get_or (set q to v) y d ≡ f y
      go y le lt (yes b) = get_or-set_other q to y v d (λ g. absurd (omega arith)) ∙ h.each y le b
      go y le lt (no b) =
          let g : to ≡ y = omega arith in
          subst (λ x. get_or (set q to v) x d ≡ f x) g (get_or-set_same q to v d (let s = h.kept.same in omega arith) ∙ e)

  -- ---- the same, with the values counted from the place

  pub placed-none : (p : List A) (at : ℕ) (f : ℕ → A) → Filled d p p at (at + 0) (shifted at f)
  placed-none p at f = subst (λ k. Filled d p p at k (shifted at f)) (let e : at ≡ at + 0 = omega arith in e) (filled_none p at (shifted at f))

  pub placed-more : (p q : List A) (at x : ℕ) (v : A) (f : ℕ → A) → at + x < length p → v ≡ f x → Filled d p q at (at + x) (shifted at f)
      → Filled d p (set q (at + x) v) at (at + (x + 1)) (shifted at f)
  unfolding shifted
  placed-more p q at x v f room e h =
      subst (λ k. Filled d p (set q (at + x) v) at k (shifted at f)) (let s : at + x + 1 ≡ at + (x + 1) = omega arith in s)
      (filled_more p q at (at + x) v (shifted at f) room (omega arith) (e ∙ ap f (let s : x ≡ at + x - at = omega arith in s)) h)

  pub placed-all : (p q : List A) (at x n : ℕ) (f : ℕ → A) → x ≡ n → Filled d p q at (at + x) (shifted at f) → Kept d p q at (at + n) × ((y : ℕ) → y < n → get_or q (at + y) d ≡ f y)
  unfolding shifted
  placed-all p q at x n f e h = (
    subst (λ k. Kept d p q at (at + k)) e h.kept,
    λ y lt. h.each (at + y) (omega arith) (omega arith) ∙ ap f (let s : at + y - at ≡ y = omega arith in s),
  )
