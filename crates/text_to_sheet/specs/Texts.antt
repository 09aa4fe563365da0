-- Which sheet a text has, for all input. `old` is what was lent, `new` what it holds afterwards. What a text means is the same by every table of
-- relations; whether its sheet is taken goes by one.
use Rattle.std.specs.Prelude.{◌≡◌, cond, List, ℕ, zero, suc, ◌≤◌, eqb, ltb, length, get_or, take, drop}
use Rattle.sheet_format.specs.Line.{bytes_of, word_lines}
use Rattle.sheet_format.specs.Table.{Table}
use Rattle.sheet_format.specs.Sheet.{over, sheet_refusal, write_ending}
use Rattle.sheet_format.specs.Answers.{Ending}
use Rattle.sheet_format.specs.Answers.Ending.{Done, Refused}
use Rattle.sheet_table.specs.Tables.{table_refusal, table_of}
use Rattle.sheet.specs.ByTable.{if_refused}
use Rattle.text_begins.specs.Begins.{most_text}
use Rattle.text_meaning.specs.Reading.{Reading, reading_of, form_of, text_line}
use Rattle.text_to_sheet.specs.Outcome.{Made}
use Rattle.text_to_sheet.specs.Outcome.{Made as made}

-- ---- what comes of a text

-- what writing its number form gives; a refusal gets the line of the text besides
abbrev pub made_by_writing : Reading → Ending → Made
made_by_writing s (Done n) = made.Sheet n
made_by_writing s (Refused c l) = made.Refused c l (text_line s l)

-- where a token did not fit, its line and what was expected there
abbrev pub made_from : Table → Reading → ℕ → Made
made_from table s room = cond (eqb s.control.expected 0) (made_by_writing s (write_ending table (form_of s) room)) (made.Expected s.line s.control.expected s.control.relation)

-- a text that is too long is not read: a shorter one (18) was expected
unfoldable pub made_of : Table → List ℕ → ℕ → Made
made_of table t room = cond (ltb most_text (length t)) (made.Expected 1 18 0) (made_from table (reading_of t) room)

-- by the bytes of a table, tb: its refusal comes first, and names no line of the text
unfoldable pub made_of_by : List ℕ → List ℕ → ℕ → Made
made_of_by tb t room = if_refused tb (made.Refused (table_refusal tb).number (table_refusal tb).line 0) (made_of (table_of tb) t room)

-- the bytes of its sheet
unfoldable pub sheet_bytes : List ℕ → List ℕ
sheet_bytes t = bytes_of (word_lines (form_of (reading_of t)))

-- the lent bytes afterwards: the sheet in front where there is one, else all as it was
abbrev pub lent_for : Made → List ℕ → List ℕ → List ℕ
lent_for (made.Sheet n) sheet old = over sheet old
lent_for (made.Expected l w r) sheet old = old
lent_for (made.Refused c l t) sheet old = old

pub record MadeAs (table : Table) (t old new : List ℕ) (r : Made) : Type 0 where
  pub result : r ≡ made_of table t (length old)
  pub lent : new ≡ lent_for r (sheet_bytes t) old

pub record MadeByTable (tb t old new : List ℕ) (r : Made) : Type 0 where
  pub result : r ≡ made_of_by tb t (length old)
  pub lent : new ≡ lent_for r (sheet_bytes t) old

-- the line of the text in which line n of the number form begins, by a table of them; 0 for none
abbrev pub begun_line : List ℕ → ℕ → ℕ
begun_line begun zero = 0
begun_line begun (suc n) = get_or begun n 0

-- ---- what follows from it (proofs/Calls.antt)

-- n bytes are a sheet that is accepted, and those after it are as they were
pub record Sheets (table : Table) (old new : List ℕ) (n : ℕ) : Type 0 where
  pub accepted : (sheet_refusal table (take n new)).number ≡ 0
  pub fits : n ≤ length new
  pub same : length new ≡ length old
  pub rest : drop n new ≡ drop n old

-- where no sheet is made, nothing is written
abbrev pub Written : Table → List ℕ → List ℕ → Made → Type 0
Written table old new (made.Sheet n) = Sheets table old new n
Written table old new (made.Expected l w r) = new ≡ old
Written table old new (made.Refused c l t) = new ≡ old
