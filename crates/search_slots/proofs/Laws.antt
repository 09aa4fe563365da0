-- What is in the sets that the functions leave.
use mathlib.Core.Path.{◌≡◌, refl, ap, ◌∙◌}
use mathlib.Core.Bool.{Bool, true, false, not, ◌&&◌, ◌||◌, or-true}
use mathlib.Core.List.{List}
use Prim.Native.Nat.{ℕ, ◌*◌, ◌/◌, ◌%◌, ◌<◌, ◌≤◌}
use native.Mathlib.Decide.{dec_lt}
use native.Mathlib.Omega.{arith}
use borrow.Author.Tests.{eq-eqb}
use lib.Dec.{eqb}
use lib.ListN.{length, get_or-eq_default}
use Rattle.search_slots.specs.Slots.{has_digit, full_word, set_word, in_set, SetWithin}
use Rattle.search_slots.specs.Slots.{SetPut, SetWith, SetJoined, SetLess}
use Rattle.search_slots.proofs.Digits.{has-full}

-- read from its word; beyond the words; and no slot of the search is beyond the words of a whole set
pub at-word : (ws : List ℕ) (k x : ℕ) → set_word ws (k / 64) ≡ x → in_set ws k ≡ has_digit x (k % 64)
unfolding in_set
at-word ws k x e = ap (λ (w : ℕ). has_digit w (k % 64)) e

pub past : (ws : List ℕ) (k : ℕ) → 64 * length ws ≤ k → in_set ws k ≡ true
past ws k h = at-word ws k full_word (get_or-eq_default ws full_word (omega arith)) ∙ has-full (k % 64) (omega arith)

-- ---- one set in another

pub within-refl : (a : List ℕ) → SetWithin a a
within-refl a k e = e

pub within_trans : (a b c : List ℕ) → SetWithin a b → SetWithin b c → SetWithin a c
within_trans a b c f g k e = g k (f k e)

or_left : (a b : Bool) → a ≡ true → (a || b) ≡ true
or_left a b e = ap (λ (x : Bool). x || b) e

or_right : (a b : Bool) → b ≡ true → (a || b) ≡ true
or_right a b e = ap (λ (x : Bool). a || x) e ∙ or-true a

-- ---- no slot; the slots of another set

module _ {old others ws : List ℕ} (a : SetPut old others ws) where
  pub put_has : SetWithin others ws
  put_has k e = go (dec_lt k (64 * length old))
    where
      go : Dec (k < 64 * length old) → in_set ws k ≡ true
      go (yes h) = a.each k h ∙ e
      go (no h) = let s = a.same in past ws k (omega arith)

-- ---- one slot more

module _ {old : List ℕ} {n : ℕ} {ws : List ℕ} (a : SetWith old n ws) where
  pub with_within : SetWithin old ws
  with_within k e = a.each k ∙ or_right (eqb k n) (in_set old k) e

  pub with_has : in_set ws n ≡ true
  with_has = a.each n ∙ or_left (eqb n n) (in_set old n) (eq-eqb n n refl)

-- ---- the slots of two sets

module _ {old others ws : List ℕ} (a : SetJoined old others ws) where
  pub joined-left : SetWithin old ws
  joined-left k e = a.each k ∙ or_left (in_set old k) (in_set others k) e

  pub joined-right : SetWithin others ws
  joined-right k e = a.each k ∙ or_right (in_set old k) (in_set others k) e

-- ---- the slots that another set lacks

module _ {old others ws : List ℕ} (a : SetLess old others ws) where
  pub less-keeps : (k : ℕ) → in_set old k ≡ true → in_set others k ≡ false → in_set ws k ≡ true
  less-keeps k e f = go (dec_lt k (64 * length old))
    where
      go : Dec (k < 64 * length old) → in_set ws k ≡ true
      go (yes h) = a.each k h ∙ (λ i. e i && not (f i))
      go (no h) = let s = a.same in past ws k (omega arith)
