-- The reader's types by the numbers of the definitions.
use Rattle.std.specs.Prelude.{ℕ, Option, Some, None, Result, Ok, Err}
use Rattle.text_meaning.specs.Control.{Control, Mark}
use Rattle.text_meaning.specs.Places.{fails}
use Rattle.text_meaning.specs.declared.Place.{Place}
use Rattle.text_meaning.specs.declared.Place.TheVariants as place
use Rattle.text_meaning.specs.declared.Expected.{Expected}
use Rattle.text_meaning.specs.declared.Expected.TheVariants as expected
use Rattle.text_meaning.specs.declared.Mark.{Mark as Token}
use Rattle.text_meaning.specs.declared.Standing.{Standing}

-- the places
abbrev pub place_number : Place → ℕ
place_number place.Start = 0
place_number place.Comment = 1
place_number place.Open = 2
place_number place.First = 3
place_number place.Term = 4
place_number place.Next = 5
place_number place.Colon = 6
place_number place.Relation = 7
place_number place.AtomEnd = 8
place_number place.Rows = 9
place_number place.Row = 10
place_number place.RowEnd = 11

-- what is expected; 1 to 3 are the kinds of blocks, and 0 is nothing
abbrev pub expected_number : Expected → ℕ
expected_number expected.Question = 1
expected_number expected.List = 2
expected_number expected.View = 3
expected_number expected.Open = 4
expected_number expected.First = 5
expected_number expected.Term = 6
expected_number expected.Next = 7
expected_number expected.Colon = 8
expected_number expected.Relation = 9
expected_number expected.Columns = 10
expected_number expected.Fewer = 11
expected_number expected.AtomEnd = 12
expected_number expected.Rows = 13
expected_number expected.FirstRow = 14
expected_number expected.Row = 15
expected_number expected.Bare = 16
expected_number expected.RowEnd = 17
expected_number expected.Shorter = 18

-- a byte; 0 for none
abbrev pub letter_number : Option ℕ → ℕ
letter_number None = 0
letter_number (Some b) = b

abbrev pub mark_of : Token → Mark
mark_of m = record { kind = m.kind; letter = letter_number m.letter; value = m.value }

abbrev pub control_of : Standing → Control
control_of s = record {
  place = place_number s.place;
  block = s.block;
  kind = s.kind;
  relation = s.relation;
  left = s.left;
  bare = s.bare;
  expected = 0;
  begins = s.begins;
  puts = s.puts;
}

-- where reading stands after a token that fitted; else where it stood, with what was expected there
abbrev pub stepped : Standing → Result Standing Expected → Control
stepped s (Ok t) = control_of t
stepped s (Err e) = fails (control_of s) (expected_number e)
