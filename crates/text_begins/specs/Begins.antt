-- What a text begins with, and the letters of its blocks.
use Rattle.std.specs.Prelude.{Bool, false, cond, ◌&&◌, ◌||◌, List, [], ◌∷◌, ℕ, suc, eqb, leb}

-- a text has at most so many bytes
abbrev pub most_text : ℕ
most_text = 65536

-- the letter of a block's kind: "q" for the question, "l" for the saved list, "v" for a view
abbrev pub letter_of : ℕ → ℕ
letter_of kind = cond (eqb kind 1) 113 (cond (eqb kind 2) 108 118)

-- a blank, a tab or a return
abbrev pub is_blank_byte : ℕ → Bool
is_blank_byte b = eqb b 32 || eqb b 9 || eqb b 13

-- a small letter, and a capital one
abbrev pub is_small : ℕ → Bool
is_small b = leb 97 b && leb b 122

abbrev pub is_capital : ℕ → Bool
is_capital b = leb 65 b && leb b 90

-- a small letter, a capital letter, "#" or the end of a line
abbrev pub begins_text : ℕ → Bool
begins_text b = is_small b || is_capital b || eqb b 35 || eqb b 10

-- the first byte that is no blank begins a text
unfoldable pub is_text_bytes : List ℕ → Bool
is_text_bytes [] = false
is_text_bytes (b ∷ s) = cond (is_blank_byte b) (is_text_bytes s) (begins_text b)

-- how many blanks come first
unfoldable pub leading_blanks : List ℕ → ℕ
leading_blanks [] = 0
leading_blanks (b ∷ s) = cond (is_blank_byte b) (suc (leading_blanks s)) 0
