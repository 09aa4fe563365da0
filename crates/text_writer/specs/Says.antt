-- Words in lent bytes. `old` is what was lent, `new` what it holds afterwards, r the count that is returned.
use Rattle.std.specs.Prelude.{◌≡◌, List, ◌⊎◌, ℕ, ◌≤◌, ◌<◌, length}
use Rattle.sheet_format.specs.Sheet.{over}
use Rattle.text_writer.specs.Rooms.{text_room}

-- too few bytes are lent: nothing is said
pub record Silent (old new : List ℕ) (r : ℕ) : Type 0 where
  pub few : length old < text_room
  pub lent : new ≡ old
  pub count : r ≡ 0

-- the words, all of them, in front of what was lent
pub record Spoken (words old new : List ℕ) (r : ℕ) : Type 0 where
  pub room : text_room ≤ length old
  pub lent : new ≡ over words old
  pub count : r ≡ length words

-- the words where there is room for any, else nothing
abbrev pub SaysWords : List ℕ → List ℕ → List ℕ → ℕ → Type 0
SaysWords words old new r = Silent old new r ⊎ Spoken words old new r
