-- What loading a table gives: why its bytes are sent back, or the table that they are.
use Rattle.std.specs.Prelude.{◌≡◌, List, [], ℕ, Result, Ok, Err}
use Rattle.sheet_format.specs.Returns.{cause_number}
use Rattle.sheet_format.specs.Table.{table_in}
use Rattle.sheet_format.specs.declared.Refusal.{Refusal}
use Rattle.sheet_table.specs.Tables.{table_refusal, table_of}

-- a table that was read: why it is sent back, 0 where it is not, and its relations in plain numbers
pub record Loaded : Type 0 where
  pub number : ℕ
  pub line : ℕ
  pub numbers : List ℕ

-- what loading returns, so
abbrev pub loaded_of : Result (List ℕ) Refusal → Loaded
loaded_of (Ok ns) = record { number = 0; line = 0; numbers = ns }
loaded_of (Err r) = record { number = cause_number r.cause; line = r.line; numbers = [] }

pub record Loads (s : List ℕ) (l : Loaded) : Type 0 where
  pub number : l.number ≡ (table_refusal s).number
  pub line : l.line ≡ (table_refusal s).line
  pub table : (table_refusal s).number ≡ 0 → table_in l.numbers ≡ table_of s
