-- Where a line starts in the bytes of a sheet.
use Rattle.std.specs.Prelude.{List, [], ◌∷◌, ℕ, zero, suc, ◌+◌, length}
use Rattle.sheet_format.specs.Line.{closed}

-- where line k of these starts, counted from 0, when the first starts at a place: each ends in a byte 10; 0 where there are not so many
abbrev pub start_in : ℕ → List (List ℕ) → ℕ → ℕ
start_in at [] k = 0
start_in at (l ∷ ls) zero = at
start_in at (l ∷ ls) (suc k) = start_in (at + length l + 1) ls k

-- of line k, counted from 1; 0 for a line that is not there or is not closed
abbrev pub line_start : List ℕ → ℕ → ℕ
line_start s zero = 0
line_start s (suc k) = start_in 0 (closed s) k
