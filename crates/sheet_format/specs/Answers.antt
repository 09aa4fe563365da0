-- What the calls answer, as the definitions speak of it: kinds and causes by number, and refusals, endings, fields, terms and places of lines.
use Rattle.std.specs.Prelude.{ℕ, ℤ}

-- why a sheet is sent back: the cause's number and the line, counted from 1, or 0 where none is named. Nothing is refused where both are 0.
pub record Refusal : Type 0 where
  pub number : ℕ
  pub line : ℕ

-- how a call ends: with the count of what it wrote, or with the cause's number and the line
pub data Ending : Type 0 where
  Done : ℕ → Ending
  Refused : ℕ → ℕ → Ending

-- what eight bytes are as a field
pub data Field : Type 0 where
  Number : ℤ → Field
  Malformed : Field

-- what a number stands for as a term: a constant, or a variable by its index from 1
pub data FieldTerm : Type 0 where
  Constant Variable : ℕ → FieldTerm
  OutOfRange : FieldTerm

-- what a line's place goes by: the kind of the block and of the line before (0 for none), the block's atoms, the lists, views and rows so
-- far, the lengths of the question's head and of the block's
pub record Seen : Type 0 where
  pub block : ℕ
  pub last : ℕ
  pub atoms : ℕ
  pub lists : ℕ
  pub views : ℕ
  pub rows : ℕ
  pub asked : ℕ
  pub columns : ℕ

-- what a line does to the sheet: it goes on, or stops by its cause
pub data LineStep : Type 0 where
  Goes : Seen → LineStep
  Stops : ℕ → LineStep
