-- Why a text has no sheet, in words.
use Rattle.std.specs.Prelude.{List, [], ℕ}
use Rattle.text_writer.specs.Texts.{refusal_bytes, expected_bytes}
use Rattle.text_to_sheet.specs.Outcome.{Made}
use Rattle.text_to_sheet.specs.Outcome.Made.{Sheet, Expected, Refused}

-- nothing where the sheet was made; else what was expected, or the refusal
abbrev pub message_bytes : Made → List ℕ
message_bytes (Sheet n) = []
message_bytes (Expected line what relation) = expected_bytes line what relation
message_bytes (Refused number line text) = refusal_bytes number line text
