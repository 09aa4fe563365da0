-- The parts of making a plan: what each step writes and keeps.
use Rattle.std.specs.Prelude.{◌≡◌, cond, List, [], ◌∷◌, ◌++◌, map, ℕ, zero, suc, ◌+◌, ◌-◌, ◌*◌, ◌<◌, ◌≤◌, ltb, leb, length, get_or, drop}
use Rattle.query_layout.specs.Layout.{block_width, names}
use Rattle.tableau_layout.specs.Layout.{blocks_at, most_blocks, plan_numbers, sizes_at, slot_end, tableau_atoms, tableau_size_at, question_block, list_block, view_block}
use Rattle.sheet_format.specs.Limits.{constant_end, most_lists}
use Rattle.sheet_format.specs.Table.{Table, relation}
use Rattle.list_laws.specs.Kept as ranges
use Rattle.sheet_format.specs.Line.{Line, gather, natural}
use Rattle.sheet_format.specs.Cause.{kind, rest}
use Rattle.query_meaning.specs.Meaning.{Term, value, Atom, Block, In}
use Rattle.query_meaning.specs.Blocks.{is_row, all_blocks, nowhere, nth}
use Rattle.query_encoding.specs.Encoding.{term_number, term_at, BlockNumbers, padded}
use Rattle.case_verdicts.specs.Accepted.{Fine}
use Rattle.case_verdicts.specs.Sheets.{top, is_view_kind, question_in, lists_in, views_in}
use Rattle.case_verdicts.specs.Tableau.{State, copy}
use Rattle.tableau_plan.specs.Plan.{tableau_at, row_at, row_values, block_numbers, block_size, tableau_size, asked_size, row_count, view_count, list_count, slot_value}

-- q is p but for the places from `from` to before `end`
abbrev pub KeptOutside : List ℕ → List ℕ → ℕ → ℕ → Type 0
KeptOutside p q from end = ranges.Kept 0 p q from end

-- ---- the blocks

-- block b has been stored, with its size; the blocks before it stay
pub record BlockStored (p q : List ℕ) (b n : ℕ) (blk : List ℕ) : Type 0 where
  pub long : length q ≡ plan_numbers
  pub kept : (y : ℕ) → y < blocks_at + b * block_width → get_or q y 0 ≡ get_or p y 0
  pub sizes : (c : ℕ) → c < b → get_or q (sizes_at + c) 0 ≡ get_or p (sizes_at + c) 0
  pub numbers : (x : ℕ) → x < block_width → get_or q (blocks_at + b * block_width + x) 0 ≡ get_or blk x 0
  pub size : get_or q (sizes_at + b) 0 ≡ n

-- where block b of a sheet with so many lists, counted from 0, stands in a plan: the views stand behind the places of all lists that there may be
unfoldable pub place_of : ℕ → ℕ → ℕ
place_of lists b = cond (leb b lists) b (b + (most_lists - lists))

-- all blocks have been stored, and n is how many there are
pub record Blocks (p : List ℕ) (ls : List Line) (n : ℕ) : Type 0 where
  pub count : n ≡ length (all_blocks ls)
  pub question : BlockNumbers (block_numbers p question_block) (block_size p question_block) (question_in ls)
  pub list : (i : ℕ) → i < length (lists_in ls) → BlockNumbers (block_numbers p (list_block i)) (block_size p (list_block i)) (get_or (lists_in ls) i nowhere.block)
  pub view : (v : ℕ) → v < length (views_in ls) → BlockNumbers (block_numbers p (view_block v)) (block_size p (view_block v)) (nth (views_in ls) v).block

-- ---- the listed rows

-- a row with its view, from 0
pub record ViewRow : Type 0 where
  pub view : ℕ
  pub row : List ℕ

abbrev pub unlisted : ViewRow
unlisted = record { view = 0; row = [] }

-- the rows of the lines, where v views have begun before
unfoldable pub rows_from : ℕ → List Line → List ViewRow
rows_from v [] = []
rows_from v (l ∷ ls) = cond (is_view_kind (kind l)) (rows_from (suc v) ls) (cond (is_row (kind l)) (record { view = v - 1; row = map natural (rest l) } ∷ rows_from v ls) (rows_from v ls))

pub record RowNumbers (p : List ℕ) (i : ℕ) (l : ViewRow) : Type 0 where
  pub view : row_at p i 0 ≡ l.view
  pub values : row_values p i ≡ padded l.row

-- the rows of the first i lines, which are r and begin v views, have been taken
pub record RowsDone (p : List ℕ) (ls : List Line) (i v r : ℕ) : Type 0 where
  pub within : r ≤ length (rows_from 0 ls)
  pub left : drop r (rows_from 0 ls) ≡ rows_from v (drop i ls)
  pub each : (k : ℕ) → k < r → RowNumbers p k (get_or (rows_from 0 ls) k unlisted)

-- ---- the tableau

-- a term of a block as one of copy k
unfoldable pub slot_of : ℕ → ℕ → ℕ
slot_of k t = cond (ltb t names) (k * names + t) (cond (ltb t (constant_end + names)) (t + (slot_end - names)) 0)

-- the block of a copy, by the rows
abbrev pub source_of : List ℕ → ℕ → ℕ
source_of p zero = 0
source_of p (suc r) = view_block (row_at p r 0)

abbrev pub empty_block : Block
empty_block = nowhere.block

-- an atom with the number of its copy
pub record PlacedAtom : Type 0 where
  pub number : ℕ
  pub atom : Atom

abbrev pub unplaced : PlacedAtom
unplaced = record { number = 0; atom = record { rel = 0; terms = [] } }

-- the terms of an atom with a relation, in copy k
abbrev pub placed_atom : ℕ → ℕ → Atom → PlacedAtom
placed_atom k rel a = record { number = k; atom = record { rel = rel; terms = a.terms } }

abbrev pub placed_in : ℕ → List Atom → List PlacedAtom
placed_in k l = map (λ a. record { number = k; atom = a }) l

-- the terms as an atom of relation p, for p not 0
abbrev pub owed_atoms : ℕ → List Term → List Atom
owed_atoms zero ts = []
owed_atoms (suc p) ts = record { rel = suc p; terms = ts } ∷ []

-- an atom and the one that it owes by a table: its terms in its relation's parent
abbrev pub with_owed : Table → Atom → List Atom
with_owed t a = a ∷ owed_atoms (relation t a.rel).parent a.terms

-- so for each atom of copy k
abbrev pub own_atoms : Table → ℕ → List Atom → List PlacedAtom
own_atoms t k l = placed_in k (gather (with_owed t) l)

-- the atoms of the blocks, which are copies from k on
abbrev pub atoms_from : Table → ℕ → List Block → List PlacedAtom
atoms_from t k [] = []
atoms_from t k (b ∷ bs) = own_atoms t k b.atoms ++ atoms_from t (suc k) bs

-- the blocks of a tableau with n rows stand in p
pub record Sources (t : Table) (p : List ℕ) (n : ℕ) (bs : List Block) : Type 0 where
  pub count : length bs ≡ suc n
  pub low : (k : ℕ) → k < length bs → source_of p k < most_blocks
  pub numbers : (k : ℕ) → k < length bs → BlockNumbers (block_numbers p (source_of p k)) (block_size p (source_of p k)) (get_or bs k empty_block)
  pub fine : (k : ℕ) → k < length bs → (a : Atom) → In a (get_or bs k empty_block).atoms → Fine top a.terms
  pub few : length (atoms_from t 0 bs) ≤ tableau_atoms

-- atom i of the tableau under every state
pub record PlacedNumbers (p : List ℕ) (i : ℕ) (a : PlacedAtom) : Type 0 where
  pub relation : tableau_at p i 0 ≡ a.atom.rel
  pub terms : (s : State) (c : ℕ) → c < 4 → slot_value s (get_or p (i * 5 + 1 + c) 0) ≡ value (copy s a.number) (term_at a.atom.terms c)

-- an atom of a block stands from a place on
pub record AtomAt (p : List ℕ) (from : ℕ) (a : Atom) : Type 0 where
  pub relation : get_or p from 0 ≡ a.rel
  pub terms : (c : ℕ) → c < 4 → get_or p (from + 1 + c) 0 ≡ term_number (term_at a.terms c)
  pub fine : Fine top a.terms

-- the first n of the atoms stand in the tableau, and these are left
pub record AtomsStored (p : List ℕ) (n : ℕ) (l left : List PlacedAtom) : Type 0 where
  pub within : n ≤ length l
  pub ahead : drop n l ≡ left
  pub each : (i : ℕ) → i < n → PlacedNumbers p i (get_or l i unplaced)

-- the atoms of the first k copies, which are n, stand in the tableau
abbrev pub TableauDone : Table → List ℕ → ℕ → ℕ → List Block → Type 0
TableauDone t p k n bs = AtomsStored p n (atoms_from t 0 bs) (atoms_from t k (drop k bs))

-- ---- the counts

pub record Closed (p q : List ℕ) (atoms asked listed lists views : ℕ) : Type 0 where
  pub same : length q ≡ length p
  pub kept : (y : ℕ) → y < tableau_size_at → get_or q y 0 ≡ get_or p y 0
  pub atoms_is : tableau_size q ≡ atoms
  pub asked_is : asked_size q ≡ asked
  pub listed_is : row_count q ≡ listed
  pub lists_is : list_count q ≡ lists
  pub views_is : view_count q ≡ views
