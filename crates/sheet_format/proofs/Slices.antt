-- A loop from one place of a list up to another: every element passes a test, and the order of two lists of words.
use mathlib.Core.Path.{◌≡◌, refl, ap, ◌∙◌}
use mathlib.Core.Bool.{Bool, true, false, cond, not, ◌&&◌, ◌||◌}
use mathlib.Core.List.{List, [], ◌∷◌}
use Prim.Native.Nat.{ℕ, ◌<◌, ◌≤◌, ◌+◌}
use lib.IntN.{ℤ, pos}
use lib.ListN.{length, get_or}
use lib.Seq.{slice}
use lib.Signed.{lt_z}
use Rattle.list_laws.proofs.Lists.{slice-none, slice-next}
use Rattle.sheet_format.specs.Line.{all}
use Rattle.sheet_format.specs.Cause.{above}

-- ---- every element passes a test

if-and : (a b : Bool) → a && b ≡ cond a b false
if-and true b = refl
if-and false b = refl

module _ {A : Type 0} (p : A → Bool) (d : A) (i t : ℕ) (l : List A) where
  pub all-step : i < t → t ≤ length l → all p (slice i t l) ≡ cond (p (get_or l i d)) (all p (slice (i + 1) t l)) false
  all-step h k = ap (all p) (slice-next i t l d h k) ∙ if-and (p (get_or l i d)) (all p (slice (i + 1) t l))

  pub all_end : t ≤ i → all p (slice i t l) ≡ true
  all_end h = ap (all p) (slice-none i t l h)

-- ---- the order of two lists, from place i of one and place j of the other on

if-above : (a b r : Bool) → a || (not b && r) ≡ cond a true (cond b false r)
if-above true b r = refl
if-above false true r = refl
if-above false false r = refl

above_nil : (ms : List ℤ) → above ms [] ≡ false
above_nil [] = refl
above_nil (m ∷ ms) = refl

module _ (i m j n : ℕ) (xs ys : List ℤ) where
  pub above-end : m ≤ i → above (slice i m xs) (slice j n ys) ≡ false
  above-end h = ap (λ l. above l (slice j n ys)) (slice-none i m xs h)

  pub above-short : n ≤ j → above (slice i m xs) (slice j n ys) ≡ false
  above-short h = ap (above (slice i m xs)) (slice-none j n ys h) ∙ above_nil (slice i m xs)

  pub above_step : i < m → m ≤ length xs → j < n → n ≤ length ys
      → above (slice i m xs) (slice j n ys) ≡ cond (lt_z (get_or xs i (pos 0)) (get_or ys j (pos 0))) true (cond (lt_z (get_or ys j (pos 0)) (get_or xs i (pos 0))) false (above (slice (i + 1) m xs) (slice (j + 1) n ys)))
  above_step h k h' k' =
      rw (slice-next i m xs (pos 0) h k, slice-next j n ys (pos 0) h' k')
      (if-above (lt_z (get_or xs i (pos 0)) (get_or ys j (pos 0))) (lt_z (get_or ys j (pos 0)) (get_or xs i (pos 0))) (above (slice (i + 1) m xs) (slice (j + 1) n ys)))
