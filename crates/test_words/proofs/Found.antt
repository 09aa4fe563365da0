-- The bytes before the first of two.
use mathlib.Core.Path.{◌≡◌}
use mathlib.Core.List.{List}
use Prim.Native.Nat.{ℕ, suc, ◌+◌, ◌<◌, ◌≤◌}
use native.Mathlib.Numerals.{add-one}
use lib.ListN.{length, get_or, drop, drop_of_length-le}
use lib.Seq.{drop-cons}
use borrow.Author.Tests.{eq-eqb, ne_eqb}
use Rattle.test_words.specs.Words.{before_either}

-- the first byte at i is a
pub found_first : (a b : ℕ) (s : List ℕ) (i : ℕ) → i < length s → get_or s i 0 ≡ a → before_either a b (drop i s) ≡ 0
unfolding before_either
found_first a b s i h e = rw (drop-cons s i 0 h, eq-eqb (get_or s i 0) a e)

-- it is not a, but b
pub found-second : (a b : ℕ) (s : List ℕ) (i : ℕ) → i < length s → (get_or s i 0 ≡ a → ⊥) → get_or s i 0 ≡ b → before_either a b (drop i s) ≡ 0
unfolding before_either
found-second a b s i h n e = rw (drop-cons s i 0 h, ne_eqb (get_or s i 0) a n, eq-eqb (get_or s i 0) b e)

-- it is neither
pub found-later : (a b : ℕ) (s : List ℕ) (i : ℕ) → i < length s → (get_or s i 0 ≡ a → ⊥) → (get_or s i 0 ≡ b → ⊥) → before_either a b (drop i s) ≡ suc (before_either a b (drop (i + 1) s))
unfolding before_either
found-later a b s i h n m = rw (add-one, drop-cons s i 0 h, ne_eqb (get_or s i 0) a n, ne_eqb (get_or s i 0) b m)

-- there is no byte left
pub found_none : (a b : ℕ) (s : List ℕ) (i : ℕ) → length s ≤ i → before_either a b (drop i s) ≡ 0
unfolding before_either
found_none a b s i h = rw (drop_of_length-le s h)
