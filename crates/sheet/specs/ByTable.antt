-- What reading and writing give by the bytes of a table, t, for all input: the table's refusal comes before the sheet is looked at. The library's own table, handed out.
use Rattle.std.specs.Prelude.{cond, List, ℕ, eqb, ℤ, length}
use Rattle.sheet_format.specs.Cause.{none}
use Rattle.sheet_format.specs.Sheet.{Returned, refused_by, answered, ending, lent_by, read_ending, read_returned, read_words, write_ending, write_returned, write_bytes}
use Rattle.sheet_format.specs.Answers.{Ending}
use Rattle.sheet_format.specs.Answers.Ending.{Refused}
use Rattle.sheet_table.specs.Tables.{table_refusal, table_of}
use Rattle.sheet_own_table.specs.Own.{own_bytes}

-- the first where the table is refused, else the second
abbrev pub if_refused : {A : Type 0} → List ℕ → A → A → A
if_refused t x y = cond (eqb (table_refusal t).number 0) y x

-- the table's refusal as an answer and as its numbers: 15, and the table's line
abbrev pub table_refused : List ℕ → Ending
table_refused t = Refused (table_refusal t).number (table_refusal t).line

abbrev pub table_returned : List ℕ → Returned
table_returned t = refused_by (table_refusal t).number (table_refusal t).line

-- ---- read: the answer, its numbers, and the lent words afterwards

unfoldable pub read_ending_by : List ℕ → List ℕ → ℕ → Ending
read_ending_by t s room = if_refused t (table_refused t) (read_ending (table_of t) s room)

unfoldable pub read_returned_by : List ℕ → List ℕ → ℕ → Returned
read_returned_by t s room = if_refused t (table_returned t) (read_returned (table_of t) s room)

unfoldable pub read_words_by : List ℕ → List ℕ → List ℤ → List ℤ
read_words_by t s out = if_refused t out (read_words (table_of t) s out)

-- ---- write: the same, and the lent bytes

unfoldable pub write_ending_by : List ℕ → List ℤ → ℕ → Ending
write_ending_by t ws room = if_refused t (table_refused t) (write_ending (table_of t) ws room)

unfoldable pub write_returned_by : List ℕ → List ℤ → ℕ → Returned
write_returned_by t ws room = if_refused t (table_returned t) (write_returned (table_of t) ws room)

unfoldable pub write_bytes_by : List ℕ → List ℤ → List ℕ → List ℕ
write_bytes_by t ws out = if_refused t out (write_bytes (table_of t) ws out)

-- ---- the library's own table: the answer, its numbers, and the lent bytes afterwards; 13 where fewer bytes are lent than it has

unfoldable pub own_ending : ℕ → Ending
own_ending room = ending none room (length own_bytes) (length own_bytes)

unfoldable pub own_returned : ℕ → Returned
own_returned room = answered none room (length own_bytes) (length own_bytes)

unfoldable pub own_lent : List ℕ → List ℕ
own_lent out = lent_by (own_ending (length out)) own_bytes out
