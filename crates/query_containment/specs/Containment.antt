-- A question frozen: its variables become values, and its atoms facts. What the list is given by these facts it is given by any that meet the question.
use Rattle.std.specs.Prelude.{◌≡◌, List, [], ◌∷◌, ◌⊎◌, ℕ, ◌+◌, ◌*◌, ◌<◌, length, get_or}
use Rattle.query_layout.specs.Layout.{block_head, names}
use Rattle.list_laws.specs.Order.{SameBefore}
use Rattle.query_meaning.specs.Facts.{value_end}
use Rattle.query_join.specs.Joins.{value_of, Becomes, Given}

-- the value of the first frozen variable: it follows every value of facts and every term of a block
abbrev pub frozen_at : ℕ
frozen_at = value_end + names

-- each number is below the values that stand for variables
pub record BelowFrozen (s : List ℕ) : Type 0 where
  pub all : (i : ℕ) → get_or s i 0 < frozen_at

-- no value of the two blocks, of the facts and of the row stands for a variable
pub record NoneFrozen (q l facts row : List ℕ) : Type 0 where
  pub question : BelowFrozen q
  pub list : BelowFrozen l
  pub given : BelowFrozen facts
  pub seen : BelowFrozen row

-- what variable x becomes: a value of its own, or the row's in one of the first k columns, where the head has x
pub record OwnValue (q row : List ℕ) (k x y : ℕ) : Type 0 where
  pub is : (y ≡ frozen_at + x) ⊎ ((p : ℕ) × (p < k) × (get_or q (block_head + p) 0 ≡ x) × (y ≡ get_or row p 0))

pub record OwnValues (q row : List ℕ) (k : ℕ) (vals : List ℕ) : Type 0 where
  pub each : (x : ℕ) → x < names → OwnValue q row k x (get_or vals x 0)

-- the valuation that a list of values is
abbrev pub under : List ℕ → ℕ → ℕ
under vals x = get_or vals x 0

-- atom j as a fact
abbrev pub atom_under : List ℕ → List ℕ → ℕ → List ℕ
atom_under q vals j =
    get_or q (j * 5) 0 ∷ value_of (under vals) (get_or q (j * 5 + 1) 0) ∷ value_of (under vals) (get_or q (j * 5 + 2) 0)
    ∷ value_of (under vals) (get_or q (j * 5 + 3) 0) ∷ value_of (under vals) (get_or q (j * 5 + 4) 0) ∷ []

-- the first n numbers are those of another list
pub record Fronted (n : ℕ) (old new : List ℕ) : Type 0 where
  pub same : (x : ℕ) → x < n → get_or new x 0 ≡ get_or old x 0

-- the first c numbers of a fact stand from place x on, and what stands before x is as it was
pub record FactPut (f : List ℕ) (c x : ℕ) (old new : List ℕ) : Type 0 where
  pub long : length new ≡ length old
  pub front : Fronted x old new
  pub here : (d : ℕ) → d < c → get_or new (x + d) 0 ≡ get_or f d 0

-- the first n atoms stand as facts from fact m on, and what stands before is as it was
pub record AtomsPut (q vals : List ℕ) (n m : ℕ) (old new : List ℕ) : Type 0 where
  pub long : length new ≡ length old
  pub front : Fronted (m * 5) old new
  pub here : (j : ℕ) → j < n → Becomes q new (under vals) j (m + j)

-- the list is given each row that the question is given and that has the row's values in the columns before k
pub record Contained (q : List ℕ) (n : ℕ) (l : List ℕ) (ln : ℕ) (facts row : List ℕ) (k : ℕ) : Type 0 where
  pub gives : (w : List ℕ) → Given q n facts w → SameBefore k row w → Given l ln facts w
