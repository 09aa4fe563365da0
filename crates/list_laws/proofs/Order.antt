-- The order of plain numbers and of their lists, and a loop that compares them.
use mathlib.Core.Path.{◌≡◌, refl, sym, ◌∙◌, subst}
use mathlib.Core.Bool.{Bool, true, false}
use mathlib.Core.List.{List, [], ◌∷◌}
use mathlib.Core.Logic.{◌⊎◌, inl, inr, ⊎_elim}
use Prim.Native.Nat.{ℕ, zero, suc, ◌+◌, ◌<◌, ◌≤◌}
use native.Mathlib.Omega.{arith}
use native.Mathlib.Decide.{dec_lt}
use borrow.Author.Count.{below_more}
use lib.ListN.{length, get_or}
use lib.Seq.{ext_get_or}
use lib.Dec.{ltb}
use borrow.Author.Tests.{ltb-true, ltb-false}
use Rattle.list_laws.specs.Order.{◌⊏◌, SameBefore}

-- one number is below another, or not
abbrev pub less? : (m n : ℕ) → (m < n) ⊎ (n ≤ m)
less? m n = go (ltb m n) refl
  where
    go : (b : Bool) → ltb m n ≡ b → (m < n) ⊎ (n ≤ m)
    go true e = inl (ltb-true m n e)
    go false e = inr (ltb-false m n e)

pub less_irrefl : (t : List ℕ) → t ⊏ t → ⊥
less_irrefl [] h = h
less_irrefl (m ∷ t) (inl lt) = omega arith
less_irrefl (m ∷ t) (inr h) = less_irrefl t h.1

pub less_trans : (t u w : List ℕ) → t ⊏ u → u ⊏ w → t ⊏ w
less_trans [] u w h k = absurd h
less_trans (m ∷ t) [] w h k = absurd h
less_trans (m ∷ t) (n ∷ u) [] h k = absurd k
less_trans (m ∷ t) (n ∷ u) (o ∷ w) (inl h) (inl k) = inl (omega arith)
less_trans (m ∷ t) (n ∷ u) (o ∷ w) (inl h) (inr k) = inl (let e = k.0 in omega arith)
less_trans (m ∷ t) (n ∷ u) (o ∷ w) (inr h) (inl k) = inl (let e = h.0 in omega arith)
less_trans (m ∷ t) (n ∷ u) (o ∷ w) (inr h) (inr k) = inr (h.0 ∙ k.0, less_trans t u w h.1 k.1)

-- not both ways
pub less-not : (t u : List ℕ) → t ⊏ u → u ⊏ t → ⊥
less-not t u h k = less_irrefl t (less_trans t u t h k)

-- what is the same or above is not below
pub not-below : (t u : List ℕ) → (t ≡ u) ⊎ (u ⊏ t) → t ⊏ u → ⊥
not-below t u (inl e) h = less_irrefl t (subst (λ x. t ⊏ x) (sym e) h)
not-below t u (inr k) h = less-not t u h k

-- ---- a loop over the places, up to the first difference

pub agree-none : (t w : List ℕ) → SameBefore 0 t w
agree-none t w = record { same = λ q lt. absurd (omega arith) }

pub agree-more : (k : ℕ) (t w : List ℕ) → SameBefore k t w → get_or t k 0 ≡ get_or w k 0 → SameBefore (k + 1) t w
agree-more k t w a e = record { same = below_more (λ q. get_or t q 0 ≡ get_or w q 0) k a.same e }

pub agree-sym : {k : ℕ} {t w : List ℕ} → SameBefore k t w → SameBefore k w t
agree-sym a = record { same = λ q lt. sym (a.same q lt) }

pub agree_trans : {k : ℕ} {t u w : List ℕ} → SameBefore k t u → SameBefore k u w → SameBefore k t w
agree_trans a b = record { same = λ q lt. a.same q lt ∙ b.same q lt }

pub agree_less : {k : ℕ} {t w : List ℕ} (j : ℕ) → j ≤ k → SameBefore k t w → SameBefore j t w
agree_less j le a = record { same = λ q lt. a.same q (omega arith) }

-- the first difference decides
pub order : (k : ℕ) (u w : List ℕ) → k < length u → k < length w → SameBefore k u w → get_or u k 0 < get_or w k 0 → u ⊏ w
order k [] w in-u in-w a lt = absurd (omega arith)
order k (m ∷ l) [] in-u in-w a lt = absurd (omega arith)
order zero (m ∷ l) (n ∷ r) in-u in-w a lt = inl lt
order (suc k) (m ∷ l) (n ∷ r) in-u in-w a lt =
    inr (a.same 0 (omega arith), order k l r (omega arith) (omega arith) (record { same = λ q h. a.same (suc q) (omega arith) }) lt)

pub record FirstDifference (u w : List ℕ) : Type 0 where
  pub at : ℕ
  pub inside : at < length u
  pub agree : SameBefore at u w
  pub less : get_or u at 0 < get_or w at 0

pub differ : (u w : List ℕ) → u ⊏ w → FirstDifference u w
differ [] w h = absurd h
differ (m ∷ l) [] h = absurd h
differ (m ∷ l) (n ∷ r) (inl lt) = record { at = 0; inside = omega arith; agree = agree-none (m ∷ l) (n ∷ r); less = lt }
differ (m ∷ l) (n ∷ r) (inr h) = later (differ l r h.1)
  where
    later : FirstDifference l r → FirstDifference (m ∷ l) (n ∷ r)
    later d = record { at = suc d.at; inside = let i = d.inside in omega arith; agree = record { same = same }; less = d.less }
      where
        same : (q : ℕ) → q < suc d.at → get_or (m ∷ l) q 0 ≡ get_or (n ∷ r) q 0
        same zero lt = h.0
        same (suc q) lt = d.agree.same q (omega arith)

-- no difference: the same
pub agree-all : (k : ℕ) (t u : List ℕ) → length t ≡ k → length u ≡ k → SameBefore k t u → t ≡ u
agree-all k t u long long' a = ext_get_or 0 t u (long ∙ sym long') (λ i lt. a.same i (omega arith))

compare-first : (m n : ℕ) (l r : List ℕ) → Dec (m < n) → Dec (n < m) → (l ⊏ r) ⊎ ((l ≡ r) ⊎ (r ⊏ l)) → ((m ∷ l) ⊏ (n ∷ r)) ⊎ (((m ∷ l) ≡ (n ∷ r)) ⊎ ((n ∷ r) ⊏ (m ∷ l)))
compare-first m n l r (yes lt) k o = inl (inl lt)
compare-first m n l r (no h) (yes lt) o = inr (inr (inl lt))
compare-first m n l r (no h) (no k) o =
    let e : m ≡ n = omega arith in
    ⊎_elim (λ x. inl (inr (e, x))) (⊎_elim (λ x. inr (inl (λ i. e i ∷ x i))) (λ x. inr (inr (inr (sym e, x))))) o

-- of as many numbers, one is below the other or they are the same
pub compare : (t u : List ℕ) → length t ≡ length u → (t ⊏ u) ⊎ ((t ≡ u) ⊎ (u ⊏ t))
compare [] [] e = inr (inl refl)
compare [] (n ∷ u) e = absurd (omega arith)
compare (m ∷ t) [] e = absurd (omega arith)
compare (m ∷ t) (n ∷ u) e = compare-first m n t u (dec_lt m n) (dec_lt n m) (compare t u (omega arith))
