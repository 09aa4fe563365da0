-- What single checks find of two rows' values a and b, of the first n of what each goes through. No promise to a caller rests on these.
use Rattle.std.specs.Prelude.{◌≡◌, true, List, ◌⊎◌, ℕ, ◌+◌, ◌-◌, ◌*◌, ◌/◌, ◌%◌, ◌<◌, ◌≤◌, length, get_or}
use Rattle.query_layout.specs.Layout.{block_head, block_width, names}
use Rattle.tableau_layout.specs.Layout.{blocks_at, most_copies, sizes_at, view_block}
use Rattle.sheet_format.specs.Limits.{most_rows, most_views}
use Rattle.case_verdicts.specs.Sheets.{top}
use Rattle.tableau_plan.specs.Plan.{row_at, row_count, view_count}
use Rattle.search_slots.specs.Slots.{in_set}
use Rattle.search_symmetry.specs.Symmetry.{exchanged, copy_becomes}

-- the constants of a stray row are those of the row
pub record SameFor (u a : List ℕ) (n : ℕ) : Type 0 where
  pub each : (c : ℕ) → c < n → get_or u c 0 < top → get_or u c 0 ≡ get_or a c 0

-- the values of the rows become each other
pub record Swapped (a b : List ℕ) (n : ℕ) : Type 0 where
  pub there : (c : ℕ) → c < n → exchanged a b (get_or a c 0) ≡ get_or b c 0
  pub back : (c : ℕ) → c < n → exchanged a b (get_or b c 0) ≡ get_or a c 0

-- number k of the blocks is one of an atom that its block has, or of its head
abbrev pub Used : List ℕ → ℕ → Type 0
Used p k = (k % block_width / 5 < get_or p (sizes_at + k / block_width) 0) ⊎ (block_head ≤ k % block_width)

-- it stays, if it is a constant
abbrev pub StaysAt : List ℕ → List ℕ → List ℕ → ℕ → Type 0
StaysAt p a b k = Used p k → names ≤ get_or p (blocks_at + k) 0 → exchanged a b (get_or p (blocks_at + k) 0 - names) ≡ get_or p (blocks_at + k) 0 - names

-- the constants of blocks stay
pub record Stays (p a b : List ℕ) (n : ℕ) : Type 0 where
  pub each : (k : ℕ) → k < n → StaysAt p a b k

-- listed row i becomes row j in the first columns
pub record TurnsInto (p a b : List ℕ) (i j n : ℕ) : Type 0 where
  pub view : row_at p j 0 ≡ row_at p i 0
  pub values : (c : ℕ) → c < n → row_at p j (1 + c) ≡ exchanged a b (row_at p i (1 + c))

-- row i becomes the listed row r
pub record Goes (p a b : List ℕ) (rows i r : ℕ) : Type 0 where
  pub inside : r < rows
  pub becomes : TurnsInto p a b i r 4

-- the first n listed rows are written where they go
pub record WrittenCopies (p a b : List ℕ) (rows : ℕ) (to : List ℕ) (n : ℕ) : Type 0 where
  pub long : length to ≡ most_rows
  pub each : (i : ℕ) → i < n → i < rows → Goes p a b rows i (get_or to i 0)

-- the first n come back
pub record ComeBack (to : List ℕ) (n : ℕ) : Type 0 where
  pub each : (i : ℕ) → i < n → (get_or to i 0 < most_rows) × (get_or to (get_or to i 0) 0 ≡ i)

-- the sheet stays: the constants of its blocks do, and each listed row goes to one and comes back
pub record SheetTurned (p a b : List ℕ) (rows views : ℕ) (to : List ℕ) : Type 0 where
  pub constants : Stays p a b (view_block views * block_width)
  pub rows_go : WrittenCopies p a b rows to most_rows
  pub rows_back : ComeBack to most_rows

-- two of the listed rows, where not more rows and views stand in the plan than may
pub record TwoListed (p : List ℕ) (one other : ℕ) : Type 0 where
  pub few_rows : row_count p ≤ most_rows
  pub few_views : view_count p ≤ most_views
  pub one_inside : one < row_count p
  pub other_inside : other < row_count p

-- the copy of a made-up value stays
abbrev pub UnmovedValue : List ℕ → ℕ → Type 0
UnmovedValue to v = (k x : ℕ) → k < most_copies → x < names → v ≡ top + (k * names + x) → copy_becomes to k ≡ k

-- the copies of a stray row's made-up values stay
pub record Unmoved (to u : List ℕ) (n : ℕ) : Type 0 where
  pub each : (c : ℕ) → c < n → UnmovedValue to (get_or u c 0)

-- the slot that slot n becomes
abbrev pub slot_to : List ℕ → ℕ → ℕ
slot_to to n = copy_becomes to (n / names) * names + n % names

-- slot n has its own made-up value, or a constant, and then becomes one of the set, as its value does
abbrev pub SlotTurned : List ℕ → List ℕ → List ℕ → List ℕ → List ℕ → ℕ → Type 0
SlotTurned ws set a b to n =
    (get_or ws n 0 ≡ top + n) ⊎ ((get_or ws n 0 < top) × (in_set set (slot_to to n) ≡ true) × (get_or ws (slot_to to n) 0 ≡ exchanged a b (get_or ws n 0)))

-- so it is with those of the first n slots that are in the set
pub record SlotsTurned (ws set a b to : List ℕ) (n : ℕ) : Type 0 where
  pub each : (k : ℕ) → k < n → in_set set k ≡ true → SlotTurned ws set a b to k
