-- What a sheet as a text gives, for all input.
use Rattle.std.specs.Prelude.{List, ℕ, length}
use Rattle.sheet_format.specs.Table.{Table}
use Rattle.sheet_format.specs.Line.{byte_lines, words_of}
use Rattle.sheet_format.specs.Sheet.{ending, lent_by, sheet_refusal}
use Rattle.sheet_format.specs.Answers.{Ending}
use Rattle.sheet_table.specs.Tables.{table_of}
use Rattle.sheet.specs.ByTable.{if_refused, table_refused}
use Rattle.text_writer.specs.Rooms.{text_room}
use Rattle.text_writer.specs.Texts.{lines_bytes}

-- ---- by a table of relations, t

-- the text of a sheet is that of its number form
unfoldable pub text_of : Table → List ℕ → List ℕ
text_of t s = lines_bytes t (words_of (byte_lines s))

-- the sheet's own refusal, then 13 where too few bytes are lent; else the text's length
unfoldable pub text_ending : Table → List ℕ → ℕ → Ending
text_ending t s room = ending (sheet_refusal t s) room text_room (length (text_of t s))

-- the lent bytes afterwards: the whole text in front; after a refusal all as it was
unfoldable pub text_lent : Table → List ℕ → List ℕ → List ℕ
text_lent t s out = lent_by (text_ending t s (length out)) (text_of t s) out

-- ---- by the bytes of a table, tb: its refusal comes first

unfoldable pub text_ending_by : List ℕ → List ℕ → ℕ → Ending
text_ending_by tb s room = if_refused tb (table_refused tb) (text_ending (table_of tb) s room)

unfoldable pub text_lent_by : List ℕ → List ℕ → List ℕ → List ℕ
text_lent_by tb s out = if_refused tb out (text_lent (table_of tb) s out)
