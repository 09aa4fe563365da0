-- What is searched for, and what a plan of an accepted sheet says of it. No promise to a caller rests on these.
use Rattle.std.specs.Prelude.{◌≡◌, Bool, true, false, List, ℕ, ◌+◌, ◌-◌, ◌*◌, ◌<◌, length}
use Rattle.query_layout.specs.Layout.{names}
use Rattle.tableau_layout.specs.Layout.{question_block}
use Rattle.query_meaning.specs.Meaning.{Block, In}
use Rattle.query_meaning.specs.Blocks.{nth}
use Rattle.query_encoding.specs.Encoding.{Shaped}
use Rattle.query_join.specs.Joins.{head_row}
use Rattle.case_verdicts.specs.Verdict.{Sheet}
use Rattle.case_verdicts.specs.Sheets.{top}
use Rattle.case_verdicts.specs.Accepted.{FineSheet}
use Rattle.case_verdicts.specs.Tableau.{State, Copy, jobs, numbered, copy, Meets, bare}
use Rattle.tableau_plan.specs.Plan.{Plan, view_count, asked_size, block_numbers, tableau_size, tableau_facts}
use Rattle.search_task.specs.declared.Goal.{Goal}
use Rattle.search_task.specs.declared.Goal.TheVariants.{Counterexample, Agreement}

-- a plan of an accepted sheet
pub record ReadyPlan (p : List ℕ) (x : Sheet) : Type 0 where
  pub plan : Plan p x
  pub accepted : FineSheet top x
  pub question : Shaped x.table x.question
  pub lists : (l : Block) → In l x.lists → Shaped x.table l × (length l.head ≡ length x.question.head)
  pub views : (v : ℕ) → v < view_count p → Shaped x.table (nth x.views v).block

-- the question is asked where a counterexample is searched for
abbrev pub asks : Goal → Bool
asks Counterexample = true
asks Agreement = false

-- the sheet itself, or the bare sheet, whose cases are the agreeing logs; and where its atoms start in the tableau
abbrev pub sheet_by : Goal → Sheet → Sheet
sheet_by Counterexample x = x
sheet_by Agreement x = bare x

abbrev pub from_by : Goal → List ℕ → ℕ
from_by Counterexample p = 0
from_by Agreement p = asked_size p

-- the facts of a state, in numbers
abbrev pub goal_facts : Goal → List ℕ → State → List ℕ
goal_facts goal p s = tableau_facts p s (from_by goal p) (tableau_size p - from_by goal p)

-- the copies' heads are what they must be
abbrev pub HeadsSettled : Sheet → State → Type 0
HeadsSettled y s = (c : Copy) → In c (numbered (jobs y)) → Meets (copy s c.number) c.job

-- the question's head
abbrev pub asked_row : List ℕ → State → List ℕ
asked_row p s = head_row (λ z. s (0 * names + z)) (block_numbers p question_block)
