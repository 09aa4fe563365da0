-- What `any` and `all` over the numbers below n say, of the numbers themselves.
use Rattle.std.proofs.Common.{◌≡◌, ℕ, ◌<◌, ◌-◌, Bool, true, false, List, length, get_or, arith, subst, sym, ◌∙◌}
use mathlib.Core.Bool.{true≢false}
use Rattle.std.specs.Bool.{MatchBool}
use Rattle.std.specs.List.{range_with_len, AllWithin, HoldsAt}
use Rattle.std.proofs.lemmas.List.FromFn.{length-range_with_len, get_or-range_with_len}

pub if-true : (b : Bool) (P Q : Type 0) → MatchBool b P Q → b ≡ true → P
if-true true P Q h e = h
if-true false P Q h e = absurd (true≢false (sym e))

pub if-false : (b : Bool) (P Q : Type 0) → MatchBool b P Q → b ≡ false → Q
if-false true P Q h e = absurd (true≢false e)
if-false false P Q h e = h

-- the numbers below n
abbrev below : ℕ → List ℕ
below n = range_with_len 0 (n - 0)

place : (n k : ℕ) → k < n → get_or (below n) k 0 ≡ k
place n k lt = get_or-range_with_len 0 (n - 0) k 0 (omega arith) ∙ omega arith

count : (n : ℕ) → length (below n) ≡ n
count n = length-range_with_len 0 (n - 0) ∙ omega arith

pub any-place : (b : Bool) (n : ℕ) (Yes No : ℕ → Type 0) → MatchBool b ((k : ℕ) × (k < length (below n)) × HoldsAt Yes (below n) k) (AllWithin No (below n) 0 (length (below n)))
    → MatchBool b ((k : ℕ) × (k < n) × Yes k) ((k : ℕ) → k < n → No k)
any-place true n Yes No h = let lt : h.0 < n = omega (arith, count n) in (h.0, lt, subst Yes (place n h.0 lt) (h.2 0))
any-place false n Yes No h = λ k lt. subst No (place n k lt) (h k 0 (omega arith) (omega (arith, count n)))

pub all-places : (b : Bool) (n : ℕ) (Yes No : ℕ → Type 0) → MatchBool b (AllWithin Yes (below n) 0 (length (below n))) ((k : ℕ) × (k < length (below n)) × HoldsAt No (below n) k)
    → MatchBool b ((k : ℕ) → k < n → Yes k) ((k : ℕ) × (k < n) × No k)
all-places true n Yes No h = λ k lt. subst Yes (place n k lt) (h k 0 (omega arith) (omega (arith, count n)))
all-places false n Yes No h = let lt : h.0 < n = omega (arith, count n) in (h.0, lt, subst No (place n h.0 lt) (h.2 0))

-- the same of a test that is answered yes
pub all-yes : (b : Bool) (n : ℕ) (Yes No : ℕ → Type 0) → MatchBool b (AllWithin Yes (below n) 0 (length (below n))) ((k : ℕ) × (k < length (below n)) × HoldsAt No (below n) k)
    → b ≡ true → (k : ℕ) → k < n → Yes k
all-yes b n Yes No h e = if-true b ((k : ℕ) → k < n → Yes k) ((k : ℕ) × (k < n) × No k) (all-places b n Yes No h) e
