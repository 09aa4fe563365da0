-- What reading, writing and handing back a line give, for all input.
use Rattle.std.specs.Prelude.{Bool, true, false, cond, List, [], ◌∷◌, ◌++◌, ℕ, zero, suc, ◌+◌, ◌%◌, eqb, ltb, ℤ, length, drop}
use Rattle.sheet_format.specs.Limits.{most_sheet_bytes, most_words, most_bytes, line_word_count}
use Rattle.sheet_format.specs.Table.{Table}
use Rattle.sheet_format.specs.Line.{byte_lines, bytes_of, word_lines, words_of}
use Rattle.sheet_format.specs.Cause.{refusal, refusal_of}
use Rattle.sheet_format.specs.Answers.{Refusal}
use Rattle.sheet_format.specs.Answers.{Ending}
use Rattle.sheet_format.specs.Answers.Ending.{Done, Refused}

-- what is returned for each answer: number, line and count
pub record Returned : Type 0 where
  pub number : ℕ
  pub line : ℕ
  pub count : ℕ

abbrev pub returned : Ending → Returned
returned (Done n) = record { number = 0; line = 0; count = n }
returned (Refused c l) = record { number = c; line = l; count = 0 }

abbrev pub refused_by : ℕ → ℕ → Returned
refused_by c l = record { number = c; line = l; count = 0 }

abbrev pub done_with : ℕ → Returned
done_with n = record { number = 0; line = 0; count = n }

-- the refusal's number and line if there is one; else 13 if the lent room is below what is wanted; else the count n
abbrev pub answered : Refusal → ℕ → ℕ → ℕ → Returned
answered r room wanted n = cond (eqb r.number 0) (cond (ltb room wanted) (refused_by 13 0) (done_with n)) (refused_by r.number r.line)

-- the same as an answer: the refusal if there is one; else 13 if the lent room is below what is wanted; else n
abbrev pub ending : Refusal → ℕ → ℕ → ℕ → Ending
ending r room wanted n = cond (eqb r.number 0) (cond (ltb room wanted) (Refused 13 0) (Done n)) (Refused r.number r.line)

-- lent output afterwards: the new elements in front and the rest as it was; after a refusal all as it was
abbrev pub over : {A : Type 0} → List A → List A → List A
over new old = new ++ drop (length new) old

abbrev pub lent_by : {A : Type 0} → Ending → List A → List A → List A
lent_by (Done n) new old = over new old
lent_by (Refused c l) new old = old

-- ---- read: a sheet's bytes to its number form, by a table of relations

-- 1, then the causes of the lines
unfoldable pub sheet_refusal : Table → List ℕ → Refusal
sheet_refusal t s = cond (ltb most_sheet_bytes (length s)) (refusal 1 0) (refusal_of t (byte_lines s))

unfoldable pub read_ending : Table → List ℕ → ℕ → Ending
read_ending t s room = ending (sheet_refusal t s) room most_words (length (byte_lines s))

abbrev pub read_returned : Table → List ℕ → ℕ → Returned
read_returned t s room = answered (sheet_refusal t s) room most_words (length (byte_lines s))

unfoldable pub read_words : Table → List ℕ → List ℤ → List ℤ
read_words t s out = lent_by (read_ending t s (length out)) (words_of (byte_lines s)) out

-- ---- write: a number form to its bytes

-- 1, then 2 for the word count, then the causes of the lines
unfoldable pub words_refusal : Table → List ℤ → Refusal
words_refusal t ws = cond (ltb most_words (length ws)) (refusal 1 0) (cond (eqb (length ws % line_word_count) 0) (refusal_of t (word_lines ws)) (refusal 2 0))

unfoldable pub write_ending : Table → List ℤ → ℕ → Ending
write_ending t ws room = ending (words_refusal t ws) room most_bytes (length (bytes_of (word_lines ws)))

abbrev pub write_returned : Table → List ℤ → ℕ → Returned
write_returned t ws room = answered (words_refusal t ws) room most_bytes (length (bytes_of (word_lines ws)))

unfoldable pub write_bytes : Table → List ℤ → List ℕ → List ℕ
write_bytes t ws out = lent_by (write_ending t ws (length out)) (bytes_of (word_lines ws)) out
