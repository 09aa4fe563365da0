-- A sheet in plain numbers, as the search for a case works on it: the tableau's atoms over slots, the listed rows, the blocks. No promise to
-- a caller rests on these.
use Rattle.std.specs.Prelude.{◌≡◌, cond, List, [], ◌∷◌, map, ℕ, zero, suc, ◌+◌, ◌-◌, ◌*◌, ◌<◌, ◌≤◌, ltb, length, get_or, take, drop}
use Rattle.query_layout.specs.Layout.{block_width}
use Rattle.tableau_layout.specs.Layout.{asked_size_at, blocks_at, list_count_at, plan_numbers, row_count_at, rows_at, sizes_at, slot_end, table_at, tableau_atoms, tableau_size_at, view_count_at, question_block, list_block, view_block}
use Rattle.sheet_format.specs.Limits.{most_lists, most_rows, most_views}
use Rattle.sheet_format.specs.Table.{Table, relation, table_in}
use Rattle.query_meaning.specs.Meaning.{con, Block, In}
use Rattle.query_meaning.specs.Blocks.{nowhere, nth}
use Rattle.query_encoding.specs.Encoding.{BlockNumbers, FactNumbers, padded}
use Rattle.case_verdicts.specs.Verdict.{Sheet}
use Rattle.case_verdicts.specs.Tableau.{State, jobs, tableau_log, bare}

-- ---- the layout of the numbers

-- number c of atom i of the tableau: 0 its relation, 1 to 4 its terms
abbrev pub tableau_at : List ℕ → ℕ → ℕ → ℕ
tableau_at p i c = get_or p (i * 5 + c) 0

-- number c of listed row i: 0 its view, from 0, and 1 to 4 its values
abbrev pub row_at : List ℕ → ℕ → ℕ → ℕ
row_at p i c = get_or p (rows_at + i * 5 + c) 0

-- block b, the question, a list or a view; and how many atoms it has
abbrev pub block_numbers : List ℕ → ℕ → List ℕ
block_numbers p b = take block_width (drop (blocks_at + b * block_width) p)

abbrev pub block_size : List ℕ → ℕ → ℕ
block_size p b = get_or p (sizes_at + b) 0

-- how many atoms the tableau has with those that are owed, how many of them, in front, are the question's, how many rows there are, and how
-- many views
abbrev pub tableau_size : List ℕ → ℕ
tableau_size p = get_or p tableau_size_at 0

abbrev pub asked_size : List ℕ → ℕ
asked_size p = get_or p asked_size_at 0

abbrev pub row_count : List ℕ → ℕ
row_count p = get_or p row_count_at 0

abbrev pub view_count : List ℕ → ℕ
view_count p = get_or p view_count_at 0

-- how many lists
abbrev pub list_count : List ℕ → ℕ
list_count p = get_or p list_count_at 0

-- the table of relations
abbrev pub plan_table : List ℕ → Table
plan_table p = table_in (drop table_at p)

-- the key and the parent of a relation, 0 where it has none
abbrev pub key_in : List ℕ → ℕ → ℕ
key_in p n = (relation (plan_table p) n).key

abbrev pub parent_in : List ℕ → ℕ → ℕ
parent_in p n = (relation (plan_table p) n).parent

-- list i of a sheet
abbrev pub saved_list_at : Sheet → ℕ → Block
saved_list_at x i = get_or x.lists i nowhere.block

-- ---- the tableau under a state

unfoldable pub slot_value : State → ℕ → ℕ
slot_value s t = cond (ltb t slot_end) (s t) (t - slot_end)

-- the facts of n atoms from atom i on, five numbers each
unfoldable pub tableau_facts : List ℕ → State → ℕ → ℕ → List ℕ
tableau_facts p s i zero = []
tableau_facts p s i (suc n) =
    tableau_at p i 0 ∷ slot_value s (tableau_at p i 1) ∷ slot_value s (tableau_at p i 2) ∷ slot_value s (tableau_at p i 3) ∷ slot_value s (tableau_at p i 4) ∷ tableau_facts p s (suc i) n

-- the four values of row i
abbrev pub row_values : List ℕ → ℕ → List ℕ
row_values p i = row_at p i 1 ∷ row_at p i 2 ∷ row_at p i 3 ∷ row_at p i 4 ∷ []

-- row i of the plan: a listed row of its view, and copy i + 1 of the tableau
pub record RowOf (p : List ℕ) (x : Sheet) (i : ℕ) : Type 0 where
  pub view : row_at p i 0 < view_count p
  pub row : List ℕ
  pub listed : In row (nth x.views (row_at p i 0)).rows
  pub values : row_values p i ≡ padded row
  pub copy : get_or (jobs x) (suc i) (record { block = x.question; is = [] }) ≡ record { block = (nth x.views (row_at p i 0)).block; is = map con row }

pub record Plan (p : List ℕ) (x : Sheet) : Type 0 where
  pub size : length p ≡ plan_numbers
  pub few : tableau_size p ≤ tableau_atoms
  pub asked : asked_size p ≤ tableau_size p
  pub rows_few : row_count p ≤ most_rows
  pub lists_few : list_count p ≤ most_lists
  pub views_few : view_count p ≤ most_views
  pub table : x.table ≡ plan_table p
  -- the tableau's facts and the rows that they owe, with the question's and without
  pub whole : (s : State) → FactNumbers (tableau_facts p s 0 (tableau_size p)) (tableau_log x s)
  pub agreeing : (s : State) → FactNumbers (tableau_facts p s (asked_size p) (tableau_size p - asked_size p)) (tableau_log (bare x) s)
  -- the blocks
  pub question : BlockNumbers (block_numbers p question_block) (block_size p question_block) x.question
  pub lists : list_count p ≡ length x.lists
  pub list : (i : ℕ) → i < list_count p → BlockNumbers (block_numbers p (list_block i)) (block_size p (list_block i)) (saved_list_at x i)
  pub views : view_count p ≡ length x.views
  pub view : (v : ℕ) → v < view_count p → BlockNumbers (block_numbers p (view_block v)) (block_size p (view_block v)) (nth x.views v).block
  -- the listed rows: each row of the plan is one, and each one is a row of the plan
  pub rows : (i : ℕ) → i < row_count p → RowOf p x i
  pub every_row : (v : ℕ) → v < view_count p → (r : List ℕ) → In r (nth x.views v).rows → (i : ℕ) × (i < row_count p) × (row_at p i 0 ≡ v) × (row_values p i ≡ padded r)
  pub copies : length (jobs x) ≡ suc (row_count p)
