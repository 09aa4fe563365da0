-- Bytes to tokens: words, numbers, and any other byte by itself; blanks only part them. The end of a line is a token.
use Rattle.std.specs.Prelude.{Bool, false, cond, ◌&&◌, ◌||◌, List, [], ◌∷◌, ◌++◌, ℕ, eqb, leb}
use Rattle.text_begins.specs.Begins.{is_blank_byte, is_small, is_capital}

abbrev pub between : ℕ → ℕ → ℕ → Bool
between a e b = leb a b && leb b e

-- the kind of a byte: "a" (97) of a small letter, "A" (65) of a capital one, "0" (48) of a digit; any other byte is its own
unfoldable pub token_kind : ℕ → ℕ
token_kind b = cond (is_small b) 97 (cond (is_capital b) 65 (cond (between 48 57 b) 48 b))

abbrev pub is_letter : ℕ → Bool
is_letter k = eqb k 97 || eqb k 65

abbrev pub is_in_word : ℕ → Bool
is_in_word k = is_letter k || eqb k 48

-- whether a byte of kind n goes on with a token of kind k: letters and digits with a word, digits with a number
unfoldable pub joins : ℕ → ℕ → Bool
joins k n = cond (is_letter k) (is_in_word n) (eqb k 48 && eqb n 48)

unfoldable pub word_goes_on : List ℕ → ℕ → Bool
word_goes_on [] b = false
word_goes_on (a ∷ w) b = joins (token_kind a) (token_kind b)

-- a token before others, where there is one
abbrev pub token : List ℕ → List (List ℕ) → List (List ℕ)
token [] ts = ts
token (a ∷ w) ts = (a ∷ w) ∷ ts

-- the token w and those of the bytes behind it, of which the first may go on with it
unfoldable pub behind : List ℕ → List ℕ → List (List ℕ)
behind w [] = token w []
behind w (b ∷ s) = cond (word_goes_on w b) (behind (w ++ (b ∷ [])) s) (token w (cond (is_blank_byte b) (behind [] s) (behind (b ∷ []) s)))

-- the tokens of bytes
abbrev pub tokens : List ℕ → List (List ℕ)
tokens s = behind [] s
