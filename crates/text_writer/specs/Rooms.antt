-- The room that texts want.
use Rattle.std.specs.Prelude.{ℕ, ◌*◌}
use Rattle.sheet_format.specs.Limits.{most_sheet_bytes}

-- the room that the text of a sheet, and all that is said in words, want: twice as many bytes as a sheet may have, for the facts of a case
abbrev pub text_room : ℕ
text_room = 2 * most_sheet_bytes
