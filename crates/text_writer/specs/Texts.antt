-- The bytes of numbers, terms, facts, lines, causes and what was expected.
use Rattle.std.specs.Prelude.{Bool, cond, List, [], ◌∷◌, ◌++◌, map, ℕ, zero, suc, ◌+◌, ◌-◌, ◌/◌, min, eqb, ltb, ℤ, pos, length, get_or, take, drop}
use Rattle.sheet_format.specs.Limits.{most_fields, line_word_count, field_end}
use Rattle.sheet_format.specs.Field.{field_bytes}
use Rattle.sheet_format.specs.Line.{natural}
use Rattle.sheet_format.specs.Cause.{term_of}
use Rattle.sheet_format.specs.Table.{Table, columns_of, ten}
use Rattle.sheet_format.specs.Answers.{FieldTerm}
use Rattle.sheet_format.specs.Answers.FieldTerm.{Constant, Variable, OutOfRange}
use Rattle.text_buffer.specs.Words.{bytes}
use Rattle.text_begins.specs.Begins.{letter_of}
use Rattle.text_begins.specs.Begins.{most_text}

-- ---- parts

-- bytes without their blanks
unfoldable pub without_blanks : List ℕ → List ℕ
without_blanks [] = []
without_blanks (b ∷ s) = cond (eqb b 32) (without_blanks s) (b ∷ without_blanks s)

-- s where a test holds, else nothing
abbrev pub if : Bool → List ℕ → List ℕ
if t s = cond t s []

-- s where a number is not 0, else nothing
abbrev pub unless0 : ℕ → List ℕ → List ℕ
unless0 n s = cond (eqb n 0) [] s

-- each of some parts after a separator
unfoldable pub following : List ℕ → List (List ℕ) → List ℕ
following sep [] = []
following sep (x ∷ xs) = sep ++ x ++ following sep xs

-- some parts with a separator between them
unfoldable pub separated : List ℕ → List (List ℕ) → List ℕ
separated sep [] = []
separated sep (x ∷ xs) = x ++ following sep xs

-- the first n groups of k words
unfoldable pub groups : ℕ → ℕ → List ℤ → List (List ℤ)
groups k zero ws = []
groups k (suc n) ws = take k ws ∷ groups k n (drop k ws)

-- ---- numbers and terms

-- a word as a number: its field of eight bytes without the blanks
unfoldable pub word_bytes : ℤ → List ℕ
word_bytes w = without_blanks (field_bytes w)

-- a number of at most eight digits; nothing for a longer one
abbrev pub number_bytes : ℕ → List ℕ
number_bytes n = if (ltb n field_end) (word_bytes (pos n))

-- a variable's letter: "a" for the first, "z" from the 26th on
unfoldable pub variable_letter : ℕ → ℕ
variable_letter i = cond (ltb i 1) 97 (cond (ltb 26 i) (96 + 26) (96 + i))

-- a variable by its letter, any other word by its number
abbrev pub term_as : FieldTerm → ℤ → List ℕ
term_as (Variable i) w = variable_letter i ∷ []
term_as (Constant n) w = word_bytes w
term_as OutOfRange w = word_bytes w

-- a term
unfoldable pub term_bytes : ℤ → List ℕ
term_bytes w = term_as (term_of w) w

-- terms in brackets
unfoldable pub terms_bytes : List ℤ → List ℕ
terms_bytes ts = bytes "(" ++ separated (bytes ",") (map term_bytes ts) ++ bytes ")"

-- ---- facts

-- the relations' names
abbrev pub relation_names : List (List ℕ)
relation_names =
    bytes "Rower"
    ∷ bytes "Strap"
    ∷ bytes "Worn"
    ∷ bytes "Sig"
    ∷ bytes "Beat"
    ∷ bytes "Noise"
    ∷ bytes "Pulse"
    ∷ bytes "Coach"
    ∷ bytes "Seat"
    ∷ bytes "Pause"
    ∷ []

-- the name of one of the ten, counted from 1; nothing for any other
abbrev pub name_bytes : ℕ → List ℕ
name_bytes zero = []
name_bytes (suc n) = get_or relation_names n []

-- a relation's name; one beyond the ten is "R" and its number
unfoldable pub relation_bytes : ℕ → List ℕ
relation_bytes zero = []
relation_bytes (suc n) = get_or relation_names n (bytes "R" ++ number_bytes (suc n))

-- a fact's words are its relation and its terms, of which as many count as the relation has columns by a table, t
unfoldable pub fact_bytes : Table → List ℤ → List ℕ
fact_bytes t ws = relation_bytes (natural (get_or ws 0 (pos 0))) ++ terms_bytes (take (columns_of t (get_or ws 0 (pos 0))) (drop 1 ws))

-- the first facts, as many as are counted and there
unfoldable pub facts_bytes : Table → ℕ → List ℤ → List ℕ
facts_bytes t count ws = separated (bytes ", ") (map (fact_bytes t) (groups 5 (min count (length ws / 5)) ws))

-- ---- lines of the number form: the field count, the kind, and the other fields. Relations go by a table, t.

-- a field count or a kind; 0 for any other word
abbrev pub small : ℤ → ℕ
small w = cond (ltb most_fields (natural w)) 0 (natural w)

-- a line's kind
abbrev pub line_kind : List ℤ → ℕ
line_kind l = small (get_or l 1 (pos 0))

-- the terms after a line's kind
abbrev pub line_terms : List ℤ → List ℤ
line_terms l = take (small (get_or l 0 (pos 0)) - 1) (drop 2 l)

-- a block's head: its letter, its terms and a colon
abbrev pub head_bytes : List ℤ → ℕ → List ℕ
head_bytes l kind = (letter_of kind ∷ []) ++ terms_bytes (line_terms l) ++ bytes ":"

-- an atom: its fact, and a comma where another atom (4) follows; else "=" in a view (3)
abbrev pub atom_bytes : Table → List ℤ → ℕ → ℕ → List ℕ
atom_bytes t l block next = bytes " " ++ fact_bytes t (drop 2 l) ++ cond (eqb next 4) (bytes ",") (if (eqb block 3) (bytes " ="))

-- a row's values: bare where there is one, in brackets where there are more or none
abbrev pub values_bytes : List ℤ → List ℕ
values_bytes l = cond (eqb (small (get_or l 0 (pos 0))) 2) (term_bytes (get_or l 2 (pos 0))) (terms_bytes (line_terms l))

-- a row: its values, and a semicolon where another row (5) follows
abbrev pub row_bytes : List ℤ → ℕ → List ℕ
row_bytes l next = bytes " " ++ values_bytes l ++ if (eqb next 5) (bytes ";")

-- a line by its kind: an atom (4), a row (5), or a head
abbrev pub kind_bytes : Table → List ℤ → ℕ → ℕ → ℕ → List ℕ
kind_bytes t l kind block next = cond (eqb kind 4) (atom_bytes t l block next) (cond (eqb kind 5) (row_bytes l next) (head_bytes l kind))

-- a line, and the end of the text's line where a head or nothing follows
unfoldable pub line_text : Table → List ℤ → ℕ → ℕ → ℕ → List ℕ
line_text t l kind block next = kind_bytes t l kind block next ++ if (ltb next 4) (bytes "\n")

-- the kind of the block that a line of a kind stands in, given that of the line before
abbrev pub block_kind : ℕ → ℕ → ℕ
block_kind kind block = cond (eqb kind 4) block (cond (eqb kind 5) block kind)

-- the kind of the first of some lines; 0 where there is none
abbrev pub kind_of_first : List (List ℤ) → ℕ
kind_of_first [] = 0
kind_of_first (l ∷ ls) = line_kind l

-- lines that follow one of a block
unfoldable pub lines_from : Table → ℕ → List (List ℤ) → List ℕ
lines_from t block [] = []
lines_from t block (l ∷ ls) = line_text t l (line_kind l) (block_kind (line_kind l) block) (kind_of_first ls) ++ lines_from t (block_kind (line_kind l) block) ls

-- the text of a number form
unfoldable pub lines_bytes : Table → List ℤ → List ℕ
lines_bytes t ws = lines_from t 0 (groups line_word_count (length ws / line_word_count) ws)

-- ---- causes

-- what the causes 1 to 9 for sending back say
abbrev pub causes : List (List ℕ)
causes =
    bytes "the sheet is too long"
    ∷ bytes "a line or a field is malformed"
    ∷ bytes "a line is out of place, or the question or a list is missing"
    ∷ bytes "no such relation, or not its columns"
    ∷ bytes "a term is out of range, or a row has a variable"
    ∷ bytes "more atoms, lists, views or rows than fit"
    ∷ bytes "a head or a row has the wrong length"
    ∷ bytes "a block has no atoms, or a variable of its head is in none"
    ∷ bytes "a row is not above the one before it"
    ∷ []

-- the text of a number that the list has, counted from 1; for any other number another text
abbrev pub nth_text : List (List ℕ) → List ℕ → ℕ → List ℕ
nth_text texts other zero = other
nth_text texts other (suc n) = get_or texts n other

-- what a cause says; 15 is a table's
abbrev pub cause_bytes : ℕ → List ℕ
cause_bytes number = cond (eqb number 15) (bytes "a line of the table is not right, or the table has none") (nth_text causes (bytes "there is not room enough") number)

-- a refusal's cause by its number, its line, and the line of the text, if any
unfoldable pub place_bytes : ℕ → ℕ → ℕ → List ℕ
place_bytes number line text =
    unless0 number (bytes "cause " ++ number_bytes number)
    ++ unless0 line (bytes " at line " ++ number_bytes line)
    ++ unless0 text (bytes " of the sheet, line " ++ number_bytes text)
    ++ unless0 text (bytes " of the text")

-- a refusal
unfoldable pub refusal_bytes : ℕ → ℕ → ℕ → List ℕ
refusal_bytes number line text = bytes "refused: " ++ place_bytes number line text ++ bytes ": " ++ cause_bytes number ++ bytes "\n"

-- ---- what was expected

-- how many columns, from one on
abbrev pub counts : List (List ℕ)
counts = bytes "one column in " ∷ bytes "two columns in " ∷ bytes "three columns in " ∷ []

-- how many columns a relation has
abbrev pub count_bytes : ℕ → List ℕ
count_bytes columns = nth_text counts (bytes "four columns in ") columns

-- the columns of a relation that has a name, by the library's own table, and its name; nothing for any other
unfoldable pub columns_bytes : ℕ → List ℕ
columns_bytes relation = cond (ltb 10 relation) [] (count_bytes (columns_of ten (pos relation)) ++ relation_bytes relation)

-- what is expected, by text_meaning's numbers for it, from 1 on
abbrev pub expectations : ℕ → List (List ℕ)
expectations relation =
    bytes "q, the question"
    ∷ bytes "l, a saved list"
    ∷ bytes "v, a view, or behind a list l, one more list"
    ∷ bytes "("
    ∷ bytes "a variable, a number or )"
    ∷ bytes "a variable or a number"
    ∷ bytes ", or )"
    ∷ bytes ":"
    ∷ bytes "a relation: Rower, Strap, Worn, Sig, Beat, Noise, Pulse, Coach, Seat or Pause"
    ∷ columns_bytes relation
    ∷ bytes "at most four columns"
    ∷ bytes ", or the end of the line"
    ∷ bytes ", or = and the rows"
    ∷ bytes "a row or the end of the line"
    ∷ bytes "a row"
    ∷ bytes ", or ; or the end of the line"
    ∷ bytes "; or the end of the line"
    ∷ []

-- a text that is not too long
unfoldable pub length_bytes : List ℕ
length_bytes = bytes "at most " ++ number_bytes most_text ++ bytes " bytes"

-- what was expected
abbrev pub what_bytes : ℕ → ℕ → List ℕ
what_bytes what relation = nth_text (expectations relation) length_bytes what

-- what was expected in a line
unfoldable pub expected_bytes : ℕ → ℕ → ℕ → List ℕ
expected_bytes line what relation = bytes "line " ++ number_bytes line ++ bytes ": expected " ++ what_bytes what relation ++ bytes "\n"
