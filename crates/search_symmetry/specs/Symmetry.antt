-- When two listed rows are alike: exchanging their values changes neither the sheet nor the values of the slots that a failure rests on. No
-- promise to a caller rests on these.
use Rattle.std.specs.Prelude.{◌≡◌, true, cond, List, [], ◌∷◌, ◌⊎◌, ℕ, zero, suc, ◌+◌, ◌-◌, ◌*◌, ◌/◌, ◌<◌, ◌≤◌, eqb, get_or}
use Rattle.query_layout.specs.Layout.{block_head, block_width, names}
use Rattle.tableau_layout.specs.Layout.{blocks_at, most_copies, view_block}
use Rattle.sheet_format.specs.Limits.{most_rows}
use Rattle.case_verdicts.specs.Sheets.{top}
use Rattle.tableau_plan.specs.Plan.{row_at, row_values, row_count, view_count, block_size}
use Rattle.search_slots.specs.Slots.{in_set}

-- a value where those of two rows are exchanged, column by column
unfoldable pub exchanged : List ℕ → List ℕ → ℕ → ℕ
exchanged [] ns v = v
exchanged (m ∷ ms) [] v = v
exchanged (m ∷ ms) (n ∷ ns) v = cond (eqb v m) n (cond (eqb v n) m (exchanged ms ns v))

-- a value of the plan where those of listed rows `one` and `other` are exchanged
abbrev pub turned : List ℕ → ℕ → ℕ → ℕ → ℕ
turned p one other v = exchanged (row_values p one) (row_values p other) v

-- the copy that copy k becomes: the question's stays, and that of listed row i becomes that of row `get_or to i 0`
abbrev pub copy_becomes : List ℕ → ℕ → ℕ
copy_becomes to zero = 0
copy_becomes to (suc i) = suc (get_or to i 0)

-- the values come back when they are exchanged twice
pub record Exchanges (p : List ℕ) (one other : ℕ) : Type 0 where
  pub there : (c : ℕ) → c < 4 → turned p one other (row_at p one (1 + c)) ≡ row_at p other (1 + c)
  pub back : (c : ℕ) → c < 4 → turned p one other (row_at p other (1 + c)) ≡ row_at p one (1 + c)

-- no constant of a block is another one then: of its atoms and of its head, which stands from number 30 on
pub record FixedValue (p : List ℕ) (one other : ℕ) : Type 0 where
  pub each : (b k : ℕ) → b < view_block (view_count p) → k < block_width → (k / 5 < block_size p b) ⊎ (block_head ≤ k) → names ≤ get_or p (blocks_at + b * block_width + k) 0 → turned p one other (get_or p (blocks_at + b * block_width + k) 0 - names) ≡ get_or p (blocks_at + b * block_width + k) 0 - names

-- listed row j is what listed row i becomes
pub record RowTo (p : List ℕ) (one other i j : ℕ) : Type 0 where
  pub inside : j < row_count p
  pub view : row_at p j 0 ≡ row_at p i 0
  pub values : (c : ℕ) → c < 4 → row_at p j (1 + c) ≡ turned p one other (row_at p i (1 + c))

-- each listed row becomes one, and comes back
pub record RowsTo (p : List ℕ) (one other : ℕ) (to : List ℕ) : Type 0 where
  pub row : (i : ℕ) → i < row_count p → RowTo p one other i (get_or to i 0)
  pub twice : (i : ℕ) → i < most_rows → (get_or to i 0 < most_rows) × (get_or to (get_or to i 0) 0 ≡ i)

-- a slot of the set has its own made-up value, or a constant, and then becomes one of the set, as its value does
pub record SlotsTo (p ws set : List ℕ) (one other : ℕ) (to : List ℕ) : Type 0 where
  pub each : (k x : ℕ) → k < most_copies → x < names → in_set set (k * names + x) ≡ true
      → (get_or ws (k * names + x) 0 ≡ top + (k * names + x)) ⊎ ((get_or ws (k * names + x) 0 < top)
      × (in_set set (copy_becomes to k * names + x) ≡ true)
      × (get_or ws (copy_becomes to k * names + x) 0 ≡ turned p one other (get_or ws (k * names + x) 0)))

-- a stray row stays: its constants are those of row `one`, and its made-up values are of copies that stay
pub record StrayStays (p u : List ℕ) (one : ℕ) (to : List ℕ) : Type 0 where
  pub constants : (c : ℕ) → c < 4 → get_or u c 0 < top → get_or u c 0 ≡ row_at p one (1 + c)
  pub slots : (c k x : ℕ) → c < 4 → k < most_copies → x < names → get_or u c 0 ≡ top + (k * names + x) → copy_becomes to k ≡ k

-- all of this
pub record Alike (p ws set u : List ℕ) (one other : ℕ) : Type 0 where
  pub few : (one < row_count p) × (other < row_count p)
  pub to : List ℕ
  pub exchanges : Exchanges p one other
  pub fixed : FixedValue p one other
  pub rows : RowsTo p one other to
  pub slots : SlotsTo p ws set one other to
  pub stray : StrayStays p u one to
