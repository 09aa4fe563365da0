-- What judging a set and writing its page gives, for all input. `bytes`, `ends`, `out` and `after` are those of a set; `page` is what was lent
-- for the page, `printed` what it holds afterwards.
use Rattle.std.specs.Prelude.{◌≡◌, List, ◌⊎◌, ℕ, ℤ, length, take, replicate}
use Rattle.sheet_format.specs.Sheet.{over}
use Rattle.judge_result.specs.Answers.{Judgement}
use Rattle.judge_ends.specs.Answers.{SetJudgement}
use Rattle.judge_ends.specs.Sets.{Promise, most_sheets, unjudged, set_judgement, SetTaken}
use Rattle.day_page.specs.Page.{page_of}
use Rattle.day_page.specs.Refusal.{refusal_of_day}
use Rattle.day_page.specs.Answers.{DayJudgement}

-- the set's judgement, and how many bytes its page has
abbrev pub day_judgement : SetJudgement → ℕ → DayJudgement
day_judgement set n = record { set = set; bytes = n }

-- a set that is sent back by a number: the same at every place
abbrev pub set_sent : ℕ → SetJudgement
set_sent n = set_judgement n 0 (replicate most_sheets (unjudged n))

-- the call is sent back: no sheet is judged, and nothing lent is changed, neither words nor bytes
pub record DaySent (bytes ends : List ℕ) (out after : List ℤ) (page printed : List ℕ) (r : DayJudgement) : Type 0 where
  pub cause : refusal_of_day bytes ends out page ≡ 0 → ⊥
  pub result : r ≡ day_judgement (set_sent (refusal_of_day bytes ends out page)) 0
  pub words : after ≡ out
  pub lent : printed ≡ page

-- the results of the set's sheets
abbrev pub results : List ℕ → DayJudgement → List Judgement
results ends r = take (length ends) r.set.sheets

-- the set is taken, and judged as it is without a page; the lent bytes are the page of its results, followed by what they were
pub record DayTaken (J : Promise) (bytes ends : List ℕ) (out after : List ℤ) (page printed : List ℕ) (r : DayJudgement) : Type 0 where
  pub taken : refusal_of_day bytes ends out page ≡ 0
  pub set : SetTaken J bytes ends out after r.set
  pub count : r.bytes ≡ length (page_of (results ends r))
  pub lent : printed ≡ over (page_of (results ends r)) page

abbrev pub DayJudged : Promise → List ℕ → List ℕ → List ℤ → List ℤ → List ℕ → List ℕ → DayJudgement → Type 0
DayJudged J bytes ends out after page printed r = DaySent bytes ends out after page printed r ⊎ DayTaken J bytes ends out after page printed r
