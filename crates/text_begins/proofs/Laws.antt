-- Laws of what a text begins with.
use mathlib.Core.Path.{◌≡◌, refl}
use mathlib.Core.Bool.{Bool, true, false}
use mathlib.Core.List.{List, [], ◌∷◌}
use mathlib.Core.Logic.{◌⊎◌, inl, inr}
use Prim.Native.Nat.{ℕ, suc, ◌+◌, ◌≤◌, ◌<◌}
use native.Mathlib.Omega.{arith}
use lib.ListN.{length, get_or}
use Rattle.std.specs.List.{position, position_or_len}
use Rattle.std.proofs.lemmas.Bool.{cases_lt}
use Rattle.std.proofs.lemmas.List.Sums.{prefix_len-le-length}
use Rattle.std.proofs.Common.{sym, cond, not, unwrap_or}
use borrow.Author.Tests.{lt-ltb, le-ltb}
use Rattle.text_begins.specs.Begins.{is_blank_byte, begins_text, is_text_bytes, leading_blanks}

-- ---- the blanks that come first

abbrev pub passes : ℕ → Bool
passes b = not (is_blank_byte b)

-- they end at the first byte that is none
blanks_end : (s : List ℕ) → leading_blanks s ≡ position_or_len passes s
unfolding leading_blanks
blanks_end [] = refl
blanks_end (b ∷ s) = by (is_blank_byte b) (blanks_end s)
  where
    by : (t : Bool) → leading_blanks s ≡ position_or_len passes s → cond t (suc (leading_blanks s)) 0 ≡ cond (not (not t)) (1 + position_or_len passes s) 0
    by true e = omega arith
    by false e = refl

pub first_place : (s : List ℕ) → unwrap_or (position passes s) (length s) ≡ leading_blanks s
first_place s = by (cases_lt (position_or_len passes s) (length s))
  where
    by : (position_or_len passes s < length s) ⊎ (length s ≤ position_or_len passes s) → unwrap_or (position passes s) (length s) ≡ leading_blanks s
    by (inl h) = rw (lt-ltb _ _ h) (sym (blanks_end s))
    by (inr h) = let e = prefix_len-le-length (λ b. not (passes b)) s in rw (le-ltb _ _ h) (omega (arith, e, blanks_end s))

pub blanks_within : (s : List ℕ) → leading_blanks s ≤ length s
blanks_within s = let e = prefix_len-le-length (λ b. not (passes b)) s in omega (arith, e, blanks_end s)

-- the byte after them tells
abbrev ToldByByte : List ℕ → Type 0
ToldByByte s = leading_blanks s < length s → begins_text (get_or s (leading_blanks s) 0) ≡ is_text_bytes s

one_told : (b : ℕ) (s : List ℕ) (t : Bool) → is_blank_byte b ≡ t → ToldByByte s → ToldByByte (b ∷ s)
unfolding leading_blanks is_text_bytes
one_told b s true e p k = rw e (p (let k' = rw e at k in omega arith))
one_told b s false e p k = rw e

pub told-by : (s : List ℕ) → leading_blanks s < length s → begins_text (get_or s (leading_blanks s) 0) ≡ is_text_bytes s
unfolding leading_blanks
told-by [] h = absurd (omega arith)
told-by (b ∷ s) h = one_told b s (is_blank_byte b) refl (told-by s) h

-- where there is none, the bytes are no text
abbrev None : List ℕ → Type 0
None s = length s ≤ leading_blanks s → false ≡ is_text_bytes s

one_none : (b : ℕ) (s : List ℕ) (t : Bool) → is_blank_byte b ≡ t → None s → None (b ∷ s)
unfolding leading_blanks is_text_bytes
one_none b s true e p k = rw e (p (let k' = rw e at k in omega arith))
one_none b s false e p k = absurd (let k' = rw e at k in omega arith)

pub told_none : (s : List ℕ) → length s ≤ leading_blanks s → false ≡ is_text_bytes s
unfolding is_text_bytes
told_none [] h = refl
told_none (b ∷ s) h = one_none b s (is_blank_byte b) refl (told_none s) h
