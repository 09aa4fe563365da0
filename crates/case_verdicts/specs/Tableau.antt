-- What a search works on. A case must have the question's atoms, and its view's atoms for each listed row: that many copies of blocks,
-- each with variables of its own, are the tableau. A value for each variable of each copy makes a log of it.
use Rattle.std.specs.Prelude.{◌≡◌, List, [], ◌∷◌, map, ℕ, suc, ◌+◌, ◌*◌}
use Rattle.sheet_format.specs.Line.{gather}
use Rattle.query_meaning.specs.Meaning.{Term, con, Fact, Log, Block, In, row, fact_of, Differ, Answer}
use Rattle.query_meaning.specs.Blocks.{View}
use Rattle.case_verdicts.specs.Table.{Table, parents, SameKey}
use Rattle.case_verdicts.specs.Verdict.{Sheet}
use Rattle.case_verdicts.specs.Accepted.{width}

-- ---- copies

-- a block that the log must meet, and what its head must be: for a view a listed row, for the question its own head
pub record Job : Type 0 where
  pub block : Block
  pub is : List Term

-- the jobs of a view: one for each of its rows
abbrev pub listed : View → List Job
listed w = map (λ r. record { block = w.block; is = map con r }) w.rows

-- the question first, then the rows view by view
abbrev pub jobs : Sheet → List Job
jobs x = record { block = x.question; is = x.question.head } ∷ gather listed x.views

-- a job with its number
pub record Copy : Type 0 where
  pub number : ℕ
  pub job : Job

abbrev pub later : Copy → Copy
later c = record { number = suc c.number; job = c.job }

-- the jobs with their numbers, from 0
abbrev pub numbered : List Job → List Copy
numbered [] = []
numbered (j ∷ js) = record { number = 0; job = j } ∷ map later (numbered js)

-- ---- the log of a state

-- a value for each slot
abbrev pub State : Type 0
State = ℕ → ℕ

-- the valuation of copy k: its variable x has slot k * width + x
abbrev pub copy : State → ℕ → ℕ → ℕ
copy t k x = t (k * width + x)

-- a copy's atoms as facts
abbrev pub copy_facts : State → Copy → Log
copy_facts t c = map (fact_of (copy t c.number)) c.job.block.atoms

-- a fact and the row that it owes to a parent
abbrev pub with_parents : Table → Fact → Log
with_parents table f = f ∷ parents table f

-- the facts of all copies
abbrev pub facts : Sheet → State → Log
facts x t = gather (copy_facts t) (numbered (jobs x))

-- and with them the rows that they owe to parents
unfoldable pub tableau_log : Sheet → State → Log
tableau_log x t = gather (with_parents x.table) (facts x t)

-- the question's head under its copy's valuation
abbrev pub head_of : Sheet → State → List ℕ
head_of x t = row (copy t 0) x.question.head

-- the head is what it must be, and the lines' terms differ
pub record Meets (v : ℕ → ℕ) (j : Job) : Type 0 where
  pub gives : row v j.block.head ≡ row v j.is
  pub differ : Differ v j.block

-- what makes the state's log a case, with the head as its missing answer
pub record Good (x : Sheet) (t : State) : Type 0 where
  pub meets : (c : Copy) → In c (numbered (jobs x)) → Meets (copy t c.number) c.job
  pub keyed : (f g : Fact) → In f (tableau_log x t) → In g (tableau_log x t) → SameKey x.table f g → f.row ≡ g.row
  pub none_more : (w : View) → In w x.views → (r : List ℕ) → Answer (tableau_log x t) w.block r → In r w.rows
  pub missing : (l : Block) → In l x.lists → Answer (tableau_log x t) l (head_of x t) → ⊥

-- ---- agreeing logs by the same search

-- the sheet that asks nothing: the block without atoms has one answer, and no list gives it, so its cases are the agreeing logs
abbrev pub bare : Sheet → Sheet
bare x = record { table = x.table; question = record { head = []; atoms = []; apart = [] }; lists = []; views = x.views }
