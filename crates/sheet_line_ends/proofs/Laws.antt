-- Laws of the bytes before the first byte 10.
use mathlib.Core.Path.{◌≡◌, refl, ap}
use mathlib.Core.Bool.{Bool, true, false, cond, not}
use mathlib.Core.List.{List, [], ◌∷◌, ◌++◌}
use Prim.Native.Nat.{ℕ, suc, ◌+◌, ◌<◌, ◌≤◌}
use native.Mathlib.Omega.{arith}
use native.Mathlib.Numerals.{add-one}
use borrow.Author.Tests.{eqb-true, eq-eqb, ne_eqb}
use lib.Dec.{eqb}
use lib.ListN.{length, take, drop, get_or, length-drop, drop_of_length-le}
use lib.Seq.{drop-cons}
use Rattle.sheet_format.specs.Line.{all}
use Rattle.sheet_format.proofs.Lists.{and_both}
use Rattle.sheet_line_ends.specs.Before.{before_end}

pub before_le : (s : List ℕ) → before_end s ≤ length s
unfolding before_end
before_le [] = omega arith
before_le (b ∷ s) = go (eqb b 10) (before_le s)
  where
    go : (t : Bool) → before_end s ≤ length s → cond t 0 (suc (before_end s)) ≤ suc (length s)
    go true h = omega arith
    go false h = omega arith

pub before_open : (s : List ℕ) → all (λ b. not (eqb b 10)) (take (before_end s) s) ≡ true
unfolding before_end
before_open [] = refl
before_open (b ∷ s) = go (eqb b 10) refl (before_open s)
  where
    go : (t : Bool) → eqb b 10 ≡ t → all (λ b. not (eqb b 10)) (take (before_end s) s) ≡ true → all (λ b. not (eqb b 10)) (take (cond t 0 (suc (before_end s))) (b ∷ s)) ≡ true
    go true e h = refl
    go false e h = and_both (not (eqb b 10)) (all (λ b. not (eqb b 10)) (take (before_end s) s)) (ap not e) h

pub before-closes : (s : List ℕ) → before_end s < length s → s ≡ take (before_end s) s ++ 10 ∷ drop (suc (before_end s)) s
unfolding before_end
before-closes [] h = absurd (omega arith)
before-closes (b ∷ s) h = go (eqb b 10) refl (before-closes s) h
  where
    go : (t : Bool) → eqb b 10 ≡ t → (before_end s < length s → s ≡ take (before_end s) s ++ 10 ∷ drop (suc (before_end s)) s) → cond t 0 (suc (before_end s)) < suc (length s)
        → b ∷ s ≡ take (cond t 0 (suc (before_end s))) (b ∷ s) ++ 10 ∷ drop (suc (cond t 0 (suc (before_end s)))) (b ∷ s)
    go true e i k = ap (λ x. x ∷ s) (eqb-true b 10 e)
    go false e i k = ap (λ x. b ∷ x) (i (omega arith))

pub before_here : (s : List ℕ) (e : ℕ) → e < length s → get_or s e 0 ≡ 10 → before_end (drop e s) ≡ 0
unfolding before_end
before_here s e lt h = rw (drop-cons s e 0 lt, eq-eqb (get_or s e 0) 10 h)

pub before-later : (s : List ℕ) (e : ℕ) → e < length s → (get_or s e 0 ≡ 10 → ⊥) → before_end (drop e s) ≡ suc (before_end (drop (e + 1) s))
unfolding before_end
before-later s e lt h = rw (drop-cons s e 0 lt, ne_eqb (get_or s e 0) 10 h, add-one)

pub before-end : (s : List ℕ) (e : ℕ) → length s ≤ e → before_end (drop e s) ≡ 0
unfolding before_end
before-end s e le = rw (drop_of_length-le s le)

pub end-inside : (s : List ℕ) (at e : ℕ) → at ≤ length s → e ≡ at + before_end (drop at s) → (at ≤ e) × (e ≤ length s)
end-inside s at e le is = let h = before_le (drop at s) in let l = length-drop at s in (omega arith, omega arith)
