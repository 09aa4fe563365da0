-- What is read of a text of words.
use Rattle.std.specs.Prelude.{◌≡◌, cond, List, [], ◌∷◌, ℕ, zero, suc, ◌+◌, ◌-◌, ◌%◌, ltb, eqb, length, get_or, take, drop, set, ℤ, pos, neg_ℤ}
use Rattle.test_numbers.specs.Numbers.{number_of}

-- how many bytes stand before the first that is a or b
unfoldable pub before_either : ℕ → ℕ → List ℕ → ℕ
before_either a b [] = 0
before_either a b (x ∷ s) = cond (eqb x a) 0 (cond (eqb x b) 0 (suc (before_either a b s)))

-- the word of a number below 0, and 0 where it is too large for a word
unfoldable pub word_below_zero : ℕ → ℤ
word_below_zero n = cond (ltb 2147483648 n) (pos 0) (neg_ℤ (pos n))

-- the word of a number not below 0, and 0 where it is too large for a word
unfoldable pub above_of : ℕ → ℤ
above_of n = cond (ltb 2147483647 n) (pos 0) (pos n)

-- the word of a decimal number, which is below 0 where "-" stands first
unfoldable pub word_of : List ℕ → ℤ
word_of [] = pos 0
word_of (b ∷ s) = cond (eqb b 45) (word_below_zero (number_of (b ∷ s))) (above_of (number_of (b ∷ s)))

-- n, or the next multiple of a unit, where both are at most ten thousand
unfoldable pub whole_of : ℕ → ℕ → ℕ
whole_of unit n = cond (ltb unit 1) n (cond (ltb 10000 unit) n (cond (ltb 10000 n) n (cond (eqb (n % unit) 0) n (n + unit - n % unit))))

-- words, and the place of the next
pub record Room : Type 0 where
  pub words : List ℤ
  pub next : ℕ

-- the place after a place of so many words
unfoldable pub next_place : ℕ → ℕ → ℕ
next_place many n = cond (ltb n many) (n + 1) n

-- a word stored at a place, and the place after it
pub record Stores (old new : List ℤ) (at : ℕ) (w : ℤ) (r : ℕ) : Type 0 where
  pub words : new ≡ set old at w
  pub next : r ≡ next_place (length old) at

-- where byte b stands after it: "/" moves the place of the next to a multiple of the unit
unfoldable pub rounded_by : ℕ → ℕ → ℕ → ℕ
rounded_by unit b n = cond (eqb b 47) (whole_of unit n) n

-- the first word of a text put, up to a place of the text
unfoldable pub first_put : ℕ → List ℕ → ℕ → Room → Room
first_put unit s e r = record { words = set r.words r.next (word_of (take e s)); next = rounded_by unit (get_or s e 0) (next_place (length r.words) r.next) }

-- at most k words of a text put, each up to a blank or "/"
unfoldable pub words_put : ℕ → ℕ → List ℕ → Room → Room
words_put zero unit s r = r
words_put (suc k) unit [] r = r
words_put (suc k) unit (b ∷ s) r = words_put k unit (drop (before_either 32 47 (b ∷ s)) s) (first_put unit (b ∷ s) (before_either 32 47 (b ∷ s)) r)

-- all words of a text put, of which there are no more than bytes
unfoldable pub words_read : ℕ → List ℕ → List ℤ → Room
words_read unit s out = words_put (length s) unit s (record { words = out; next = 0 })
