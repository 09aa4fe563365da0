-- The sheets whose cases tell whether a question is settled. They are what a search works on; no promise names them.
use Rattle.std.specs.Prelude.{List, [], ◌∷◌, map, ℕ}
use Rattle.query_meaning.specs.Meaning.{con, Block}
use Rattle.case_verdicts.specs.Verdict.{Sheet}

-- the block with one answer on every log
abbrev pub constant_block : List ℕ → Block
constant_block r = record { head = map con r; atoms = []; apart = [] }

-- its cases are the agreeing logs with an answer beyond these
abbrev pub beyond_rows : Sheet → List (List ℕ) → Sheet
beyond_rows x rs = record { table = x.table; question = x.question; lists = map constant_block rs; views = x.views }

-- its cases are the agreeing logs that do not give the question this answer
abbrev pub lacking_row : Sheet → List ℕ → Sheet
lacking_row x r = record { table = x.table; question = constant_block r; lists = x.question ∷ []; views = x.views }
