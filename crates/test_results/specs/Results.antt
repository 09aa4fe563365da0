-- The bytes of a result.
use Rattle.std.specs.Prelude.{Bool, true, false, cond, List, [], ◌∷◌, ◌++◌, ℕ, zero, suc, ◌+◌, ◌/◌, ◌%◌, ltb, eqb, ℤ, pos, negsuc, nat_abs}

-- the last digits of a number, at most k + 1 of them: the last one stands after those of a tenth of it
unfoldable pub trailing_digits : ℕ → ℕ → List ℕ
trailing_digits zero n = (48 + n % 10) ∷ []
trailing_digits (suc k) n = cond (ltb n 10) ((48 + n) ∷ []) (trailing_digits k (n / 10) ++ ((48 + n % 10) ∷ []))

-- the decimal digits of a number n, of which there are at most n + 1
unfoldable pub decimal_digits : ℕ → List ℕ
decimal_digits n = trailing_digits n n

-- "-" before a word below 0
unfoldable pub sign : ℤ → List ℕ
sign (pos n) = []
sign (negsuc n) = 45 ∷ []

-- a word in decimal
abbrev pub word_decimal : ℤ → List ℕ
word_decimal w = sign w ++ decimal_digits (nat_abs w)

-- the byte after the i-th word: "/" after the last of a unit, and a blank after any other
unfoldable pub closing : ℕ → ℕ → ℕ
closing unit i = cond (eqb unit 0) 32 (cond (eqb (i % unit) 0) 47 32)

-- words in decimal, after i others
unfoldable pub words_bytes : ℕ → ℕ → List ℤ → List ℕ
words_bytes unit i [] = []
words_bytes unit i (w ∷ ws) = word_decimal w ++ (closing unit (i + 1) ∷ []) ++ words_bytes unit (i + 1) ws

-- "=" where a test holds, and "!" where it does not
unfoldable pub mark_byte : Bool → ℕ
mark_byte true = 61
mark_byte false = 33
