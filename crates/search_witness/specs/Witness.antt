-- Facts of the tableau that give a block a row in every state that obeys some words. No promise to a caller rests on these.
use Rattle.std.specs.Prelude.{◌≡◌, cond, List, map, ℕ, ◌+◌, ◌-◌, ◌*◌, ◌<◌, ◌≤◌, ltb, length, get_or}
use Rattle.query_layout.specs.Layout.{block_head, names}
use Rattle.tableau_layout.specs.Layout.{question_block, slot_end}
use Rattle.case_verdicts.specs.Sheets.{top}
use Rattle.case_verdicts.specs.Tableau.{State}
use Rattle.query_join.specs.Joins.{value_of, head_row}
use Rattle.tableau_plan.specs.Plan.{block_numbers, slot_value, tableau_at, tableau_facts, tableau_size}
use Rattle.tableau_parts.specs.Views.{GivenAt}
use Rattle.search_slots.specs.Slots.{SetWithin}
use Rattle.search_links.specs.Links.{Linked, value_under}
use Rattle.search_links.specs.Steps.{RootValue, RootValues}
use Rattle.search_reasons.specs.Reasons.{Obeys}

-- the valuation that reads each variable of a block at a place of the tableau
abbrev pub read_at : List ℕ → State → ℕ → ℕ
read_at first t x = slot_value t (get_or first x 0)

-- what a term of a block stands for: its variable's place, or the place of the constant
unfoldable pub witness_place : List ℕ → ℕ → ℕ
witness_place first a = cond (ltb a names) (get_or first a 0) (slot_end + (a - names))

-- in every state that obeys the set, the place w has the value of the term a
abbrev pub Reads : List ℕ → List ℕ → List ℕ → ℕ → ℕ → Type 0
Reads ws first set w a = (t : State) → Obeys t ws set → slot_value t w ≡ value_of (read_at first t) a

-- column c of atom i of the tableau has the value of that of atom j of block b
pub record ColumnRead (p ws first : List ℕ) (b j i c : ℕ) (old set : List ℕ) : Type 0 where
  pub more : SetWithin old set
  pub column : Reads ws first set (tableau_at p i (1 + c)) (get_or (block_numbers p b) (j * 5 + 1 + c) 0)

-- atom j of block b becomes atom i of the tableau
pub record AtomRead (p ws first : List ℕ) (b j i : ℕ) (old set : List ℕ) : Type 0 where
  pub more : SetWithin old set
  pub relation : tableau_at p i 0 ≡ get_or (block_numbers p b) (j * 5) 0
  pub columns : (c : ℕ) → c < 4 → Reads ws first set (tableau_at p i (1 + c)) (get_or (block_numbers p b) (j * 5 + 1 + c) 0)

-- the first n atoms of block b become the atoms `at` of the tableau, from atom `from` on
pub record AtomsRead (p ws first : List ℕ) (from b : ℕ) (at : List ℕ) (n : ℕ) (old set : List ℕ) : Type 0 where
  pub more : SetWithin old set
  pub inside : (j : ℕ) → j < n → (from ≤ get_or at j 0) × (get_or at j 0 < tableau_size p)
  pub relation : (j : ℕ) → j < n → tableau_at p (get_or at j 0) 0 ≡ get_or (block_numbers p b) (j * 5) 0
  pub columns : (j : ℕ) → j < n → (c : ℕ) → c < 4 → Reads ws first set (tableau_at p (get_or at j 0) (1 + c)) (get_or (block_numbers p b) (j * 5 + 1 + c) 0)

-- column c of the head of block b has the value v under the valuation, in every state that obeys the set
pub record HeadRead (p ws first : List ℕ) (b c : ℕ) (old set : List ℕ) (v : ℕ) : Type 0 where
  pub more : SetWithin old set
  pub value : (t : State) → Obeys t ws set → value_of (read_at first t) (get_or (block_numbers p b) (block_head + c) 0) ≡ value_under top t v
  pub root : Linked top ws → length ws ≡ slot_end → RootValue top ws v

-- the columns of the head have the row's values
pub record RowRead (p ws first : List ℕ) (b : ℕ) (row old set : List ℕ) : Type 0 where
  pub more : SetWithin old set
  pub value : (c : ℕ) → c < 4 → (t : State) → Obeys t ws set → value_of (read_at first t) (get_or (block_numbers p b) (block_head + c) 0) ≡ value_under top t (get_or row c 0)
  pub size : length row ≡ 4
  pub root : Linked top ws → length ws ≡ slot_end → (c : ℕ) → c < 4 → RootValue top ws (get_or row c 0)

-- in every state that obeys the set, facts of the tableau from atom `from` on give block b the row; its values are where links end
pub record RowShown (p ws : List ℕ) (from b : ℕ) (row old set : List ℕ) : Type 0 where
  pub more : SetWithin old set
  pub size : length row ≡ 4
  pub given : (t : State) → Obeys t ws set → GivenAt p b (tableau_facts p t from (tableau_size p - from)) (map (value_under top t) row)
  pub roots : Linked top ws → length ws ≡ slot_end → RootValues top ws row

-- in every state that obeys the set, the question's head under the valuation of the first copy is the row
pub record AskedShown (p ws row old set : List ℕ) : Type 0 where
  pub more : SetWithin old set
  pub size : length row ≡ 4
  pub row_is : (t : State) → Obeys t ws set → head_row (λ z. t (0 * names + z)) (block_numbers p question_block) ≡ map (value_under top t) row
