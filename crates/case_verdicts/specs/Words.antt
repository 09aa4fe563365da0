-- A state in words.
use Rattle.std.specs.Prelude.{List, ℕ, ◌+◌, get_or}
use Rattle.case_verdicts.specs.Tableau.{State}

-- slot n has word n; slots past the words still have the made-up values they started with
abbrev pub state_of : ℕ → List ℕ → State
state_of top ws n = get_or ws n (top + n)
