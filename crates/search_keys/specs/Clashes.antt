-- Atoms of the tableau that clash in a key under the words of a state, and what that rests on. No promise to a caller rests on these.
use Rattle.std.specs.Prelude.{◌≡◌, Bool, true, false, List, ℕ, ◌+◌, ◌<◌, ◌≤◌, length, get_or}
use Rattle.case_verdicts.specs.Sheets.{top}
use Rattle.case_verdicts.specs.Tableau.{State}
use Rattle.tableau_plan.specs.Plan.{key_in, slot_value, tableau_at}
use Rattle.search_slots.specs.Slots.{SetWithin}
use Rattle.search_links.specs.Links.{place_root, value_under}
use Rattle.search_reasons.specs.Reasons.{Obeys, Place}

-- the place of column c of atom i, and the value at the end of its links
abbrev pub column_place : List ℕ → ℕ → ℕ → ℕ
column_place p i c = tableau_at p i (1 + c)

abbrev pub end_at : List ℕ → List ℕ → ℕ → ℕ → ℕ
end_at p ws i c = place_root top ws (column_place p i c)

abbrev pub Places : List ℕ → ℕ → Type 0
Places p i = (c : ℕ) → c < 4 → Place (column_place p i c)

-- atoms i and k have the same values in the first n columns
abbrev pub OneIn : List ℕ → List ℕ → ℕ → ℕ → ℕ → Type 0
OneIn p ws i k n = (c : ℕ) → c < n → end_at p ws i c ≡ end_at p ws k c

abbrev pub OneBy : Bool → List ℕ → List ℕ → ℕ → ℕ → ℕ → Type 0
OneBy true p ws i k n = OneIn p ws i k n
OneBy false p ws i k n = OneIn p ws i k n → ⊥

-- they are of one relation, have the same values in its key, and others in the rest
pub record ClashAt (p ws : List ℕ) (i k : ℕ) : Type 0 where
  pub relation : tableau_at p i 0 ≡ tableau_at p k 0
  pub some : 0 < key_in p (tableau_at p i 0)
  pub first : OneIn p ws i k (key_in p (tableau_at p i 0))
  pub differ : OneIn p ws i k 4 → ⊥

-- where they have one value in column c, they have it in every state that obeys the set
abbrev pub KeyReads : List ℕ → List ℕ → ℕ → ℕ → ℕ → List ℕ → Type 0
KeyReads p ws i k c set = end_at p ws i c ≡ end_at p ws k c → (t : State) → Obeys t ws set → slot_value t (column_place p i c) ≡ slot_value t (column_place p k c)

pub record ColumnMarked (p ws : List ℕ) (i k c : ℕ) (old set : List ℕ) : Type 0 where
  pub more : SetWithin old set
  pub reads : KeyReads p ws i k c set

pub record KeyMarked (p ws : List ℕ) (i k n : ℕ) (old set : List ℕ) : Type 0 where
  pub more : SetWithin old set
  pub reads : (c : ℕ) → c < n → KeyReads p ws i k c set

-- column c of atom i as the row of a node has it: 0 in the key, and else the value at the end of its links, which it has in every state that obeys
-- the set
pub record ValueMarked (p ws : List ℕ) (i key c : ℕ) (old set : List ℕ) (v : ℕ) : Type 0 where
  pub more : SetWithin old set
  pub zero : c < key → v ≡ 0
  pub rest : key ≤ c → v ≡ end_at p ws i c
  pub reads : key ≤ c → (t : State) → Obeys t ws set → slot_value t (column_place p i c) ≡ value_under top t v

pub record RowMarked (p ws : List ℕ) (i key : ℕ) (old set row : List ℕ) : Type 0 where
  pub more : SetWithin old set
  pub size : length row ≡ 4
  pub zero : (c : ℕ) → c < 4 → c < key → get_or row c 0 ≡ 0
  pub rest : (c : ℕ) → c < 4 → key ≤ c → get_or row c 0 ≡ end_at p ws i c
  pub reads : (c : ℕ) → c < 4 → key ≤ c → (t : State) → Obeys t ws set → slot_value t (column_place p i c) ≡ value_under top t (get_or row c 0)

-- the two rows that have to become one, and the set by which the atoms are alike in the key
pub record ClashShown (p ws : List ℕ) (i k : ℕ) (set u v : List ℕ) : Type 0 where
  pub first : (c : ℕ) → c < key_in p (tableau_at p i 0) → KeyReads p ws i k c set
  pub left : RowMarked p ws i (key_in p (tableau_at p i 0)) set set u
  pub right : RowMarked p ws k (key_in p (tableau_at p i 0)) set set v
