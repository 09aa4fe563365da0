-- The log's relations: a table of columns, keys and parents, numbered from 1.
use Rattle.std.specs.Prelude.{List, [], ◌∷◌, ℕ}

-- Rower, Strap, Worn, Sig, Beat, Noise, Pulse, Coach, Seat, Pause
abbrev pub relations : List ℕ
relations = 2 ∷ 1 ∷ 3 ∷ 2 ∷ 2 ∷ 2 ∷ 3 ∷ 2 ∷ 4 ∷ 1 ∷ []

-- the parent of each, 0 where it has none: in a log that counts, the parent has each row that the relation has. Beats and noise are signals.
abbrev pub parent_numbers : List ℕ
parent_numbers = 0 ∷ 0 ∷ 0 ∷ 0 ∷ 4 ∷ 4 ∷ 0 ∷ 0 ∷ 0 ∷ 0 ∷ []

-- the key of each, 0 where it has none: in a log that counts, rows alike in the first so many columns are alike in all. A strap has one rower in a
-- session, and one rate at a tick.
abbrev pub key_numbers : List ℕ
key_numbers = 0 ∷ 0 ∷ 2 ∷ 0 ∷ 0 ∷ 0 ∷ 2 ∷ 0 ∷ 0 ∷ 0 ∷ []
