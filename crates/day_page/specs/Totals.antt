-- What the lines of a page add up to, whatever they were made of.
use Rattle.std.specs.Prelude.{cond, List, [], ◌∷◌, ℕ, ◌+◌, eqb, pos, get_or}
use Rattle.sheet_format.specs.Line.{Line, natural}

-- a line's number at a place, counted from 0
abbrev pub number_in_field : ℕ → Line → ℕ
number_in_field k l = natural (get_or l k (pos 0))

-- how many lines have a number for their verdict
unfoldable pub having : ℕ → List Line → ℕ
having verdict [] = 0
having verdict (l ∷ ls) = cond (eqb (number_in_field 1 l) verdict) 1 0 + having verdict ls

-- what the lines' fact counts come to
unfoldable pub counted : List Line → ℕ
counted [] = 0
counted (l ∷ ls) = number_in_field 3 l + counted ls

abbrev pub totals_of : List Line → Line
totals_of ls = pos (having 0 ls) ∷ pos (having 1 ls) ∷ pos (having 2 ls) ∷ pos (having 9 ls) ∷ pos (counted ls) ∷ []
