-- Signed words and their bits, and a signed number by its two cases.
use mathlib.Core.Path.{◌≡◌, refl, sym, ap, ◌∙◌}
use mathlib.Core.Bool.{true, false, true≢false}
use mathlib.Core.List.{List}
use Prim.Native.Nat.{ℕ, zero, suc, ◌<◌}
use native.Mathlib.Nat.{zero-add}
use native.Mathlib.Omega.{arith}
use lib.IntN.{ℤ, pos, negsuc, ◌-ℤ◌}
use lib.ListN.{get_or}
use lib.Signed.{lt_z, mag}
use mir.Syntax.{Width, w32}
use mir.Val.{SFits, to_z, of_z}
use mir.ValLaws.{to_z-of_z, to_z_pos}
use borrow.Author.Tests.{ltb-true, lt-ltb}

module _ {w : Width} where
  -- the word read back from its bits is the word
  pub back : {z : ℤ} → SFits w z → to_z w (of_z w z) ≡ z
  back {z} h = to_z-of_z w z h

  -- the word with the bits n
  pub word_of : {z : ℤ} (n : ℕ) → SFits w z → of_z w z ≡ n → z ≡ to_z w n
  word_of {z} n h e = sym (back h) ∙ ap (to_z w) e

  -- words with the same bits are the same
  pub of_bits : {a b : ℤ} → SFits w a → SFits w b → of_z w a ≡ of_z w b → a ≡ b
  of_bits {a} {b} h k e = word_of (of_z w b) h e ∙ back k

-- ---- words of 32 bits

-- a word of a list
pub word_back : (ws : List ℤ) (i : ℕ) → mag (get_or ws i (pos 0)) < 2147483648 → to_z w32 (of_z w32 (get_or ws i (pos 0))) ≡ get_or ws i (pos 0)
word_back ws i h = to_z-of_z w32 (get_or ws i (pos 0)) (record { sfits = h })

pub to_pos : (n : ℕ) → n < 2147483648 → to_z w32 n ≡ pos n
to_pos n h = to_z_pos w32 n h

-- ---- below 0, and not

pub negative : (z : ℤ) → lt_z z (pos 0) ≡ true → (n : ℕ) × (z ≡ negsuc n) × (pos 0 -ℤ z ≡ pos (suc n))
negative (pos n) e = let h = ltb-true n 0 e in absurd (omega arith)
negative (negsuc n) e = (n, refl, ap pos (zero-add (suc n)))

pub positive : (z : ℤ) → lt_z z (pos 0) ≡ false → (n : ℕ) × (z ≡ pos n)
positive (pos n) e = (n, refl)
positive (negsuc n) e = absurd (true≢false e)

-- and how large it is, as a word
pub natural : (z : ℤ) → SFits w32 z → lt_z z (pos 0) ≡ false → (n : ℕ) × (n < 2147483648) × (z ≡ pos n)
natural (pos n) h e = (n, h.sfits, refl)
natural (negsuc n) h e = absurd (true≢false e)

-- ---- a minus before a small number

below-fits : (n : ℕ) → n < 2147483648 → SFits w32 (pos 0 -ℤ pos n)
below-fits zero h = record { sfits = omega arith }
below-fits (suc n) h = rw (lt-ltb 0 (suc n) (omega arith)) (record { sfits = omega arith })

-- the number with a minus before it is a word
pub minus-fits : (n : ℕ) → n < 2147483648 → SFits w32 (pos 0 -ℤ to_z w32 n)
minus-fits n h = rw (to_z_pos w32 n h) (below-fits n h)
