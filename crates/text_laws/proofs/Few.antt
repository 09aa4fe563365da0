-- Different numbers below n are at most n.
use mathlib.Core.Path.{◌≡◌, refl, ap}
use mathlib.Core.Bool.{Bool, true, false, cond}
use mathlib.Core.List.{List, [], ◌∷◌, ◌++◌}
use Prim.Native.Nat.{ℕ, zero, suc, ◌≤◌, ◌<◌}
use native.Mathlib.Omega.{arith}
use lib.Dec.{eqb}
use lib.ListN.{length}
use borrow.Author.Tests.{eqb-true, eqb-false, ne_eqb}

-- v is none of some numbers
abbrev pub Fresh : ℕ → List ℕ → Type 0
Fresh v [] = Unit
Fresh v (k ∷ ks) = (v ≡ k → ⊥) × Fresh v ks

-- numbers below n, each but once
abbrev pub Different : ℕ → List ℕ → Type 0
Different n [] = Unit
Different n (k ∷ ks) = (k < n) × Fresh k ks × Different n ks

fresh-more : (v k : ℕ) (ks : List ℕ) → Fresh k ks → (k ≡ v → ⊥) → Fresh k (ks ++ (v ∷ []))
fresh-more v k [] f h = (h, tt)
fresh-more v k (x ∷ ks) f h = (f.0, fresh-more v k ks f.1 h)

-- one more that is none of them
pub different_more : (n v : ℕ) (ks : List ℕ) → Different n ks → Fresh v ks → v < n → Different n (ks ++ (v ∷ []))
different_more n v [] d f h = (h, tt, tt)
different_more n v (k ∷ ks) d f h = (d.0, fresh-more v k ks d.1 (λ e. f.0 (omega arith)), different_more n v ks d.2 f.1 h)

-- ---- all but n

abbrev without : ℕ → List ℕ → List ℕ
without n [] = []
without n (k ∷ ks) = cond (eqb n k) (without n ks) (k ∷ without n ks)

fresh_kept : (n : ℕ) (ks : List ℕ) → Fresh n ks → without n ks ≡ ks
fresh_kept n [] f = refl
fresh_kept n (k ∷ ks) f = rw (ne_eqb n k f.0) (ap (λ r. k ∷ r) (fresh_kept n ks f.1))

fresh-without : (n v : ℕ) (ks : List ℕ) → Fresh v ks → Fresh v (without n ks)
fresh-without n v [] f = tt
fresh-without n v (k ∷ ks) f = by (eqb n k) (fresh-without n v ks f.1)
  where
    by : (t : Bool) → Fresh v (without n ks) → Fresh v (cond t (without n ks) (k ∷ without n ks))
    by true r = r
    by false r = (f.0, r)

below-without : (n : ℕ) (ks : List ℕ) → Different (suc n) ks → Different n (without n ks)
below-without n [] d = tt
below-without n (k ∷ ks) d = by (eqb n k) refl (below-without n ks d.2)
  where
    by : (t : Bool) → eqb n k ≡ t → Different n (without n ks) → Different n (cond t (without n ks) (k ∷ without n ks))
    by true e r = r
    by false e r = let h = eqb-false n k e in let l = d.0 in ((omega arith), fresh-without n k ks d.1, r)

one_less : (n m : ℕ) (ks : List ℕ) → Different m ks → length ks ≤ suc (length (without n ks))
one_less n m [] d = omega arith
one_less n m (k ∷ ks) d = by (eqb n k) refl (one_less n m ks d.2)
  where
    by : (t : Bool) → eqb n k ≡ t → length ks ≤ suc (length (without n ks)) → suc (length ks) ≤ suc (length (cond t (without n ks) (k ∷ without n ks)))
    by true e r = let q = eqb-true n k e in rw (q, fresh_kept k ks d.1) (omega arith)
    by false e r = omega arith

pub few : (n : ℕ) (ks : List ℕ) → Different n ks → length ks ≤ n
few zero [] d = omega arith
few zero (k ∷ ks) d = absurd (let h = d.0 in omega arith)
few (suc n) ks d = let r = few n (without n ks) (below-without n ks d) in let l = one_less n (suc n) ks d in omega arith
