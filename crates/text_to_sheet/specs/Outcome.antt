-- What comes of a text, as the definitions speak of it: what was expected by its number.
use Rattle.std.specs.Prelude.{ℕ, Result, Ok, Err}
use Rattle.sheet_format.specs.Returns.{cause_number}
use Rattle.text_meaning.specs.Numbers.{expected_number}
use Rattle.text_to_sheet.specs.declared.NotMade.{NotMade}
use Rattle.text_to_sheet.specs.declared.NotMade.TheVariants as reason

-- how many bytes its sheet has; or the line, what was expected there and in which relation; or the library's refusal, its number and line, and
-- the line of the text
pub data Made : Type 0 where
  Sheet : ℕ → Made
  Expected : ℕ → ℕ → ℕ → Made
  Refused : ℕ → ℕ → ℕ → Made

-- what a call gives
abbrev pub made_from_result : Result ℕ NotMade → Made
made_from_result (Ok n) = Made.Sheet n
made_from_result (Err (reason.Expected line what relation)) = Made.Expected line (expected_number what) relation
made_from_result (Err (reason.Refused refusal text)) = Made.Refused (cause_number refusal.cause) refusal.line text
