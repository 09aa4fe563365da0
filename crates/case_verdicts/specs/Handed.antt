-- What is promised of the case that is handed over with verdict 1.
use Rattle.std.specs.Prelude.{◌≡◌, List, [], ◌∷◌, ◌⊎◌, ℕ, ◌+◌, ◌*◌, ◌<◌, ◌≤◌, length}
use Rattle.query_meaning.specs.Meaning.{Term, con, Fact, Log, Atom, Apart, Block, In}
use Rattle.query_meaning.specs.Blocks.{View}
use Rattle.query_meaning.specs.Evaluate.{◌≺◌}
use Rattle.case_verdicts.specs.Table.{relation}
use Rattle.case_verdicts.specs.Verdict.{Sheet, Case}

-- ---- no fact to spare

-- `rest` has the facts of the log but f
pub record Dropped (f : Fact) (log rest : Log) : Type 0 where
  pub only : (g : Fact) → In g rest → In g log × (g ≡ f → ⊥)
  pub kept : (g : Fact) → In g log → (g ≡ f → ⊥) → In g rest

-- Meaning, of the case handed over: drop any one of its facts, and what is left is no case, whatever answer is looked for
abbrev pub SpareFree : Sheet → Log → Type 0
SpareFree x log = (f : Fact) → In f log → (rest : Log) → Dropped f log rest → (t : List ℕ) → Case x rest t → ⊥

-- no element stands twice: the length is how many there are
abbrev pub Distinct : {A : Type 0} → List A → Type 0
Distinct [] = Unit {0}
Distinct (x ∷ l) = (In x l → ⊥) × Distinct l

-- ---- how many facts there can be

-- the atoms of each view, as often as it has rows
abbrev pub row_atoms : List View → ℕ
row_atoms [] = 0
row_atoms (w ∷ ws) = length w.rows * length w.block.atoms + row_atoms ws

-- Meaning, of the case handed over: the question's atoms, and its view's atoms for each listed row
abbrev pub size : Sheet → ℕ
size x = length x.question.atoms + row_atoms x.views

-- ---- the numbers that stand in a sheet

-- the question, a list or a view's block
abbrev pub BlockOf : Sheet → Block → Type 0
BlockOf x b = (b ≡ x.question) ⊎ (In b x.lists ⊎ ((w : View) × In w x.views × (b ≡ w.block)))

-- a term of the head, of an atom or of a line of terms that must differ
abbrev pub TermOf : Block → Term → Type 0
TermOf b u = In u b.head ⊎ (((a : Atom) × In a b.atoms × In u a.terms) ⊎ ((d : Apart) × In d b.apart × ((u ≡ d.left) ⊎ (u ≡ d.right))))

-- Meaning, of the case handed over: n is a constant of one of the blocks, or a value of a listed row
pub data Stands (x : Sheet) (n : ℕ) : Type 0 where
  in_block : (b : Block) → BlockOf x b → TermOf b (con n) → Stands x n
  in_row : (w : View) → In w x.views → (r : List ℕ) → In r w.rows → In n r → Stands x n

-- Meaning, of the case handed over and of the missing answer: a case for this answer, which is the least of those it is a case for; no
-- fact to spare, each fact once, no more facts than the size (twice that where facts owe a parent's row); each value stands in the sheet
-- or was made up, from `top` to below `end`.
pub record Handed (top end : ℕ) (x : Sheet) : Type 0 where
  pub log : Log
  pub answer : List ℕ
  pub is : Case x log answer
  pub least : (r : List ℕ) → Case x log r → (answer ≡ r) ⊎ (answer ≺ r)
  pub spare_free : SpareFree x log
  pub distinct : Distinct log
  pub most : ((n : ℕ) → (relation x.table n).parent ≡ 0) → length log ≤ size x
  pub most_with_parents : length log ≤ 2 * size x
  pub values : (f : Fact) → In f log → (n : ℕ) → In n f.row → Stands x n ⊎ ((top ≤ n) × (n < end))
