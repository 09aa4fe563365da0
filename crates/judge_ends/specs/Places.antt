-- What is known of a set that is taken, and what judging one of its sheets gives.
use Rattle.std.specs.Prelude.{◌≡◌, List, ℕ, ◌+◌, ◌*◌, ◌<◌, ◌≤◌, ℤ, length, get_or, take, drop}
use Rattle.judge_result.specs.Judged.{least_room}
use Rattle.judge_result.specs.Answers.{Judgement}
use Rattle.judge_ends.specs.Sets.{Promise, most_sheets, start_of, sheet_at, stretch_at}

-- each sheet lies within the bytes, and there is a stretch for each
pub record Parted (bytes ends : List ℕ) (words : ℕ) : Type 0 where
  pub few : length ends ≤ most_sheets
  pub ordered : (k : ℕ) → k < length ends → start_of ends k ≤ get_or ends k 0
  pub within : (k : ℕ) → k < length ends → get_or ends k 0 ≤ length bytes
  pub room : length ends * least_room ≤ words

-- the sheet at place k is judged in its own stretch, and the words before and behind it are as they were
pub record JudgedAt (J : Promise) (k : ℕ) (bytes ends : List ℕ) (out after : List ℤ) (j : Judgement) : Type 0 where
  pub judged : J (sheet_at bytes ends k) (stretch_at out k) (stretch_at after k) j
  pub before : take (k * least_room) after ≡ take (k * least_room) out
  pub behind : drop (k * least_room + least_room) after ≡ drop (k * least_room + least_room) out
