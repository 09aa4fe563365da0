-- Rows column by column.
use mathlib.Core.Path.{◌≡◌, refl, sym, ap, ◌∙◌, subst}
use mathlib.Core.List.{List, [], ◌∷◌, ◌++◌, map}
use mathlib.Core.Logic.{inl, inr}
use Prim.Native.Nat.{ℕ, zero, suc, ◌+◌, ◌<◌}
use native.Mathlib.Omega.{arith}
use lib.ListN.{length, get_or, replicate}
use Rattle.query_meaning.specs.Meaning.{In}
use Rattle.case_verdicts.specs.Search.{Equation, ◌≈◌, equations, Met}
use Rattle.tableau_plan.specs.Plan.{row_at, row_values}

pub same_at : (l m : List ℕ) → length l ≡ length m → ((c : ℕ) → c < length l → get_or l c 0 ≡ get_or m c 0) → l ≡ m
same_at [] [] e h = refl
same_at [] (n ∷ m) e h = absurd (omega arith)
same_at (k ∷ l) [] e h = absurd (omega arith)
same_at (k ∷ l) (n ∷ m) e h = ap (λ z. z ∷ l) (h 0 (omega arith)) ∙ ap (λ z. n ∷ z) (same_at l m (omega arith) (λ c lt. h (suc c) (omega arith)))

pub zeros-at : (k c : ℕ) → get_or (replicate {A = ℕ} k 0) c 0 ≡ 0
zeros-at zero c = refl
zeros-at (suc k) zero = refl
zeros-at (suc k) (suc c) = zeros-at k c

pub pad_at : (l : List ℕ) (k c : ℕ) → get_or (l ++ replicate k 0) c 0 ≡ get_or l c 0
pad_at [] k c = zeros-at k c
pad_at (n ∷ l) k zero = refl
pad_at (n ∷ l) k (suc c) = pad_at l k c

pub map_at : (f : ℕ → ℕ) (l : List ℕ) (c : ℕ) → c < length l → get_or (map f l) c 0 ≡ f (get_or l c 0)
map_at f [] c lt = absurd (omega arith)
map_at f (n ∷ l) zero lt = refl
map_at f (n ∷ l) (suc c) lt = map_at f l c (omega arith)

pub map-length : (f : ℕ → ℕ) (l : List ℕ) → length (map f l) ≡ length l
map-length f [] = refl
map-length f (n ∷ l) = ap suc (map-length f l)

pub met_at : (h : ℕ → ℕ) (u r : List ℕ) → Met h (equations u r) → (c : ℕ) → c < length u → c < length r → h (get_or u c 0) ≡ h (get_or r c 0)
met_at h [] r met c a b = absurd (omega arith)
met_at h (m ∷ u) [] met c a b = absurd (omega arith)
met_at h (m ∷ u) (n ∷ r) met zero a b = met (m ≈ n) (inl refl)
met_at h (m ∷ u) (n ∷ r) met (suc c) a b = met_at h u r (λ e i. met e (inr i)) c (omega arith) (omega arith)

pub at-met : (h : ℕ → ℕ) (u r : List ℕ) → ((c : ℕ) → c < length u → c < length r → h (get_or u c 0) ≡ h (get_or r c 0)) → Met h (equations u r)
at-met h [] r each e m = absurd m
at-met h (m ∷ u) [] each e i = absurd i
at-met h (m ∷ u) (n ∷ r) each e (inl q) = subst (λ (f : Equation). h f.left ≡ h f.right) (sym q) (each 0 (omega arith) (omega arith))
at-met h (m ∷ u) (n ∷ r) each e (inr i) = at-met h u r (λ c a b. each (suc c) (omega arith) (omega arith)) e i

pub at_in : (l : List ℕ) (c : ℕ) → c < length l → In (get_or l c 0) l
at_in [] c lt = absurd (omega arith)
at_in (n ∷ l) zero lt = inl refl
at_in (n ∷ l) (suc c) lt = inr (at_in l c (omega arith))

-- a row of the plan
pub row-at : (p : List ℕ) (i c : ℕ) → c < 4 → get_or (row_values p i) c 0 ≡ row_at p i (1 + c)
row-at p i zero lt = refl
row-at p i (suc zero) lt = refl
row-at p i (suc (suc zero)) lt = refl
row-at p i (suc (suc (suc zero))) lt = refl
row-at p i (suc (suc (suc (suc c)))) lt = absurd (omega arith)
