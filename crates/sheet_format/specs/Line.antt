-- Lines: 1 to 6 fields each. A line that is malformed (cause 2) has no fields.
use Rattle.std.specs.Prelude.{Bool, true, false, cond, ◌&&◌, List, [], ◌∷◌, ◌++◌, map, ℕ, zero, suc, ◌+◌, ◌-◌, ◌*◌, ◌/◌, ◌%◌, eqb, ltb, leb, ℤ, pos, negsuc, length, take, drop, get_or, replicate}
use Rattle.std.specs.List.{list_all}
use Rattle.sheet_format.specs.Limits.{field_byte_count, most_fields, line_word_count}
use Rattle.sheet_format.specs.Field.{field_of, field_bytes, fits}
use Rattle.sheet_format.specs.Answers.{Field}
use Rattle.sheet_format.specs.Answers.Field.{Number, Malformed}

abbrev pub Line : Type 0
Line = List ℤ

-- every element passes the test; f of each element, joined
abbrev pub all : {A : Type 0} → (A → Bool) → List A → Bool
all p l = list_all p l

abbrev pub gather : {A B : Type 0} → (A → List B) → List A → List B
gather f [] = []
gather f (x ∷ l) = f x ++ gather f l

abbrev pub null : {A : Type 0} → List A → Bool
null [] = true
null (x ∷ l) = false

-- ---- the bytes of a sheet: each line is closed by byte 10

-- the closed lines' own bytes, without byte 10; `cur` is what the current line has so far
unfoldable pub closed_from : List ℕ → List ℕ → List (List ℕ)
closed_from cur [] = []
closed_from cur (b ∷ s) = cond (eqb b 10) (cur ∷ closed_from [] s) (closed_from (cur ++ (b ∷ [])) s)

abbrev pub closed : List ℕ → List (List ℕ)
closed s = closed_from [] s

-- the bytes after the last byte 10
unfoldable pub open_from : List ℕ → List ℕ → List ℕ
open_from cur [] = cur
open_from cur (b ∷ s) = cond (eqb b 10) (open_from [] s) (open_from (cur ++ (b ∷ [])) s)

-- line k, counted from 1: its own bytes; none for a line that is not there or is not closed
abbrev pub line_at : List ℕ → ℕ → List ℕ
line_at s zero = []
line_at s (suc k) = get_or (closed s) k []

-- k fields of eight bytes
abbrev pub eights : ℕ → List ℕ → List (List ℕ)
eights zero s = []
eights (suc k) s = take field_byte_count s ∷ eights k (drop field_byte_count s)

abbrev pub is_number : Field → Bool
is_number (Number z) = true
is_number Malformed = false

abbrev pub number : Field → ℤ
number (Number z) = z
number Malformed = pos 0

abbrev pub fields_in : List ℕ → List Field
fields_in s = map field_of (eights (length s / field_byte_count) s)

-- a line's length is 8 to 48 by eights, and its fields are numbers
abbrev pub is_well_formed : List ℕ → Bool
is_well_formed s = eqb (length s % field_byte_count) 0 && (leb 1 (length s / field_byte_count) && (leb (length s / field_byte_count) most_fields && all is_number (fields_in s)))

unfoldable pub line_of : List ℕ → Line
line_of s = cond (is_well_formed s) (map number (fields_in s)) []

-- the lines of a sheet's bytes; an unclosed last line is malformed
unfoldable pub byte_lines : List ℕ → List Line
byte_lines s = map line_of (closed s) ++ cond (null (open_from [] s)) [] ([] ∷ [])

unfoldable pub line_bytes : Line → List ℕ
line_bytes l = gather field_bytes l ++ (10 ∷ [])

unfoldable pub bytes_of : List Line → List ℕ
bytes_of ls = gather line_bytes ls

-- ---- the number form: seven words a line, the field count and then six fields, unused ones 0

abbrev pub natural : ℤ → ℕ
natural (pos n) = n
natural (negsuc n) = 0

abbrev pub is_zero : ℤ → Bool
is_zero (pos n) = eqb n 0
is_zero (negsuc n) = false

abbrev pub count : List ℤ → ℕ
count ws = natural (get_or ws 0 (pos 0))

-- the field count is 1 to 6, unused words are 0, no number is too wide
abbrev pub well_formed_words : List ℤ → Bool
well_formed_words ws = leb 1 (count ws) && (leb (count ws) most_fields && (all fits (take (count ws) (drop 1 ws)) && all is_zero (drop (count ws) (drop 1 ws))))

unfoldable pub word_line : List ℤ → Line
word_line ws = cond (well_formed_words ws) (take (count ws) (drop 1 ws)) []

unfoldable pub sevens : ℕ → List ℤ → List Line
sevens zero ws = []
sevens (suc k) ws = word_line (take line_word_count ws) ∷ sevens k (drop line_word_count ws)

abbrev pub word_lines : List ℤ → List Line
word_lines ws = sevens (length ws / line_word_count) ws

unfoldable pub line_words : Line → List ℤ
line_words l = (pos (length l) ∷ l) ++ replicate (most_fields - length l) (pos 0)

unfoldable pub words_of : List Line → List ℤ
words_of ls = gather line_words ls
