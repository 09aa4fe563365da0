-- Names and numbers: what a token stands for.
use Rattle.std.specs.Prelude.{Bool, true, false, cond, ◌&&◌, List, [], ◌∷◌, ◌++◌, ℕ, suc, ◌+◌, ◌-◌, ◌*◌, ◌/◌, min, eqb, ltb, leb, length}
use Rattle.sheet_format.specs.Limits.{field_end, most_variables}
use Rattle.text_writer.specs.Texts.{relation_names}
use Rattle.text_meaning.specs.Tokens.{between, token_kind}
use Rattle.text_meaning.specs.Control.{Mark}

unfoldable pub are_same_bytes : List ℕ → List ℕ → Bool
are_same_bytes [] [] = true
are_same_bytes [] (b ∷ s) = false
are_same_bytes (a ∷ w) [] = false
are_same_bytes (a ∷ w) (b ∷ s) = eqb a b && are_same_bytes w s

-- ---- numbers

-- a number with one digit more; what is no digit, or is one too many for a field, leads out of every field
unfoldable pub number_longer : ℕ → ℕ → ℕ
number_longer n b = cond (between 48 57 b && ltb n (field_end / 10)) (n * 10 + (b - 48)) field_end

unfoldable pub number_from : ℕ → List ℕ → ℕ
number_from n [] = n
number_from n (b ∷ s) = number_from (number_longer n b) s

-- the number of digits; the largest that fits a field where it is larger, which no sheet takes for a constant
abbrev pub number_named : List ℕ → ℕ
number_named s = min (number_from 0 s) (field_end - 1)

-- ---- relations

-- the number of a name among some that are numbered from r on; 0 where it is none of them
unfoldable pub among : List ℕ → ℕ → List (List ℕ) → ℕ
among w r [] = 0
among w r (n ∷ ns) = cond (are_same_bytes w n) r (among w (suc r) ns)

-- the ten have names; each beyond them is "R" (82) and its number
abbrev pub beyond : List ℕ → ℕ
beyond [] = 0
beyond (a ∷ s) = cond (eqb a 82 && (ltb 10 (number_from 0 s) && ltb (number_from 0 s) field_end)) (number_from 0 s) 0

abbrev pub first_named : ℕ → ℕ → ℕ
first_named n m = cond (eqb n 0) m n

-- the relation that a word names; 0 where there is none
unfoldable pub relation_named : List ℕ → ℕ
relation_named w = first_named (among w 1 relation_names) (beyond w)

-- ---- variables

-- the place of a word among names, from 0; their count where it is none of them
unfoldable pub place_in : List ℕ → List (List ℕ) → ℕ
place_in w [] = 0
place_in w (n ∷ ns) = cond (are_same_bytes w n) 0 (suc (place_in w ns))

-- the names of a block with one more where it is new. Only as many are kept as a block may have variables: any more have the number after them,
-- which no sheet takes.
unfoldable pub noted : List ℕ → List (List ℕ) → List (List ℕ)
noted w ns = cond (ltb (place_in w ns) (length ns)) ns (cond (leb most_variables (length ns)) ns (ns ++ (w ∷ [])))

-- ---- marks

-- a number's value, or the relation of a word that begins with a capital letter
abbrev pub token_value : ℕ → List ℕ → ℕ
token_value kind w = cond (eqb kind 48) (number_named w) (cond (eqb kind 65) (relation_named w) 0)

-- the byte of a token that has no other; else 0
abbrev pub letter_in : List ℕ → ℕ
letter_in [] = 0
letter_in (b ∷ []) = b
letter_in (b ∷ c ∷ w) = 0

-- a token's mark; the end of the text, a token without bytes, is marked as the end of a line (10)
unfoldable pub token_mark : List ℕ → Mark
token_mark [] = record { kind = 10; letter = 0; value = 0 }
token_mark (b ∷ w) = record { kind = token_kind b; letter = letter_in (b ∷ w); value = token_value (token_kind b) (b ∷ w) }
