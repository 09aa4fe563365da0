-- Values of a column that one value dominates, over a plan. No promise to a caller rests on these.
use Rattle.std.specs.Prelude.{◌≡◌, List, ℕ, ◌+◌, ◌*◌, ◌/◌, ◌%◌, ◌<◌, ◌≤◌, min, length, get_or}
use Rattle.sheet_format.specs.Limits.{most_atoms}
use Rattle.list_laws.specs.Order.{◌⊏◌, SameBefore}
use Rattle.query_dominance.specs.Dominance.{Dominates}
use Rattle.tableau_layout.specs.Layout.{question_block, list_block}
use Rattle.tableau_plan.specs.Plan.{list_count, block_numbers, block_size}
use Rattle.tableau_parts.specs.Views.{GivenAt, GivenToList}

-- y dominates x in column k of the rows of block b
abbrev pub DominatesAt : List ℕ → ℕ → List ℕ → ℕ → ℕ → ℕ → Type 0
DominatesAt p b facts k x y = Dominates (block_numbers p b) (min (block_size p b) most_atoms) facts k x y

-- b dominates a in the question's rows, and a dominates b in each list's: where lists are given all of the question's rows with b, they are given
-- all with a
pub record Dominated (p facts : List ℕ) (k a b : ℕ) : Type 0 where
  pub asked : DominatesAt p question_block facts k a b
  pub listed : (i : ℕ) → i < list_count p → DominatesAt p (list_block i) facts k b a

-- a term stands at a place of the first n atoms
pub record TermAmong (blk : List ℕ) (n y at : ℕ) : Type 0 where
  pub inside : at < n * 5
  pub term : get_or blk at 0 ≡ y
  pub place : 0 < at % 5

-- if fact i has the relation, and a value after a and before end at a place, then b dominates that value
abbrev pub DominatedFact : List ℕ → List ℕ → ℕ → ℕ → ℕ → ℕ → ℕ → ℕ → ℕ → Type 0
DominatedFact p facts k relation place a b end i = get_or facts (i * 5) 0 ≡ relation → a < get_or facts (i * 5 + place) 0 → get_or facts (i * 5 + place) 0 < end
    → Dominated p facts k (get_or facts (i * 5 + place) 0) b

pub record DominatedTo (p facts : List ℕ) (k relation place a b end : ℕ) : Type 0 where
  pub each : (i : ℕ) → i < length facts / 5 → DominatedFact p facts k relation place a b end i

-- the rows below a row that the question is given are given to lists
pub record GivenBelow (p facts row : List ℕ) : Type 0 where
  pub all : (w : List ℕ) → GivenAt p question_block facts w → w ⊏ row → GivenToList p facts w

-- then so are those that begin as the row does before column k, and have there its value or one up to end
pub record GivenUpTo (p facts row : List ℕ) (k end : ℕ) : Type 0 where
  pub each : GivenBelow p facts row → (w : List ℕ) → GivenAt p question_block facts w → SameBefore k row w → get_or row k 0 ≤ get_or w k 0 → get_or w k 0 < end
      → GivenToList p facts w
