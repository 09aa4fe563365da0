-- What is said of a sheet or a text by a table of relations, t, for all input. `old` is what was lent, `new` what it holds afterwards, r the count that is returned.
use Rattle.std.specs.Prelude.{◌≡◌, true, false, List, ◌⊎◌, ℕ}
use Rattle.sheet_format.specs.Limits.{most_bytes}
use Rattle.sheet_format.specs.Table.{Table}
use Rattle.sheet_table.specs.Tables.{table_refusal, table_of}
use Rattle.text_begins.specs.Begins.{is_text_bytes}
use Rattle.text_writer.specs.Texts.{refusal_bytes}
use Rattle.text_writer.specs.Says.{SaysWords}
use Rattle.text_to_sheet.specs.Texts.{made_of, sheet_bytes}
use Rattle.text_to_sheet.specs.Outcome.{Made}
use Rattle.text_to_sheet.specs.Outcome.Made.{Sheet, Expected, Refused}
use Rattle.text_message.specs.Message.{message_bytes}
use Rattle.text_judgement.specs.Verdict.{Verdict}

-- a sheet that was given: its verdict
pub record OfSheet (t : Table) (given old new : List ℕ) (r : ℕ) : Type 0 where
  pub is : is_text_bytes given ≡ false
  pub verdict : Verdict t given old new r

-- what comes of a text: the verdict of its sheet, where it has one; else why there is none
abbrev pub Replied : Table → Made → List ℕ → List ℕ → List ℕ → ℕ → Type 0
Replied t (Sheet n) given old new r = Verdict t (sheet_bytes given) old new r
Replied t (Expected l w k) given old new r = SaysWords (message_bytes (Expected l w k)) old new r
Replied t (Refused c l x) given old new r = SaysWords (message_bytes (Refused c l x)) old new r

-- a text that was given
pub record OfText (t : Table) (given old new : List ℕ) (r : ℕ) : Type 0 where
  pub is : is_text_bytes given ≡ true
  pub reply : Replied t (made_of t given most_bytes) given old new r

abbrev pub Answered : Table → List ℕ → List ℕ → List ℕ → ℕ → Type 0
Answered t given old new r = OfSheet t given old new r ⊎ OfText t given old new r

-- ---- by the bytes of a table, tb

-- the table is sent back, and what was given is not looked at
pub record OfTable (tb old new : List ℕ) (r : ℕ) : Type 0 where
  pub cause : (table_refusal tb).number ≡ 0 → ⊥
  pub words : SaysWords (refusal_bytes (table_refusal tb).number (table_refusal tb).line 0) old new r

abbrev pub AnsweredBy : List ℕ → List ℕ → List ℕ → List ℕ → ℕ → Type 0
AnsweredBy tb given old new r = OfTable tb old new r ⊎ (((table_refusal tb).number ≡ 0) × Answered (table_of tb) given old new r)
