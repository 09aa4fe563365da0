-- The page for a set that was judged: a line for each sheet, and a closing line of totals. Fields and lines are those of sheets.
use Rattle.std.specs.Prelude.{cond, List, [], ◌∷◌, ◌++◌, ℕ, suc, ◌+◌, ◌*◌, ◌<◌, ◌≤◌, eqb, pos}
use Rattle.sheet_format.specs.Limits.{field_end}
use Rattle.sheet_format.specs.Line.{Line, bytes_of}
use Rattle.query_meaning.specs.Facts.{fact_words}
use Rattle.judge_result.specs.Judged.{least_room}
use Rattle.judge_result.specs.Answers.{Judgement}

-- so many bytes must be lent, whatever the set needs: the most sheets have a page of so many
abbrev pub page_room : ℕ
page_room = 569

-- a sheet's line: its place, its verdict or 9, its refusal's number or 0, its fact count
abbrev pub sheet_line : ℕ → Judgement → Line
sheet_line place j = pos place ∷ pos j.verdict ∷ pos j.number ∷ pos j.count ∷ []

-- the lines of sheets, the first of which has this place
unfoldable pub sheet_lines : ℕ → List Judgement → List Line
sheet_lines place [] = []
sheet_lines place (j ∷ js) = sheet_line place j ∷ sheet_lines (suc place) js

-- how many have a verdict
unfoldable pub tally : ℕ → List Judgement → ℕ
tally verdict [] = 0
tally verdict (j ∷ js) = cond (eqb j.verdict verdict) 1 0 + tally verdict js

abbrev pub facts_of : Judgement → ℕ
facts_of j = j.count

-- the facts of all
unfoldable pub sum_of_facts : List Judgement → ℕ
sum_of_facts [] = 0
sum_of_facts (j ∷ js) = j.count + sum_of_facts js

-- how many had 0, 1, 2 and 9, and the sum of facts
abbrev pub closing_line : List Judgement → Line
closing_line js = pos (tally 0 js) ∷ pos (tally 1 js) ∷ pos (tally 2 js) ∷ pos (tally 9 js) ∷ pos (sum_of_facts js) ∷ []

-- places are counted from 1
abbrev pub page_lines : List Judgement → List Line
page_lines js = sheet_lines 1 js ++ (closing_line js ∷ [])

abbrev pub page_of : List Judgement → List ℕ
page_of js = bytes_of (page_lines js)

-- ---- what every judgement is: its numbers fit their fields, and its facts the words of a case

pub record Printable (j : Judgement) : Type 0 where
  pub verdict : j.verdict < field_end
  pub number : j.number < field_end
  pub count : j.count * fact_words ≤ least_room

abbrev pub AllShown : List Judgement → Type 0
AllShown [] = Unit {0}
AllShown (j ∷ js) = Printable j × AllShown js
