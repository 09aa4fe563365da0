-- What a step of a search does to words with links.
use Rattle.std.specs.Prelude.{◌≡◌, Bool, true, false, List, [], ◌∷◌, ◌⊎◌, ℕ, ◌+◌, ◌-◌, ◌<◌, ◌≤◌, length, get_or, set}
use Rattle.query_meaning.specs.Meaning.{In}
use Rattle.case_verdicts.specs.Search.{Keeps, Met, after, ◌≈◌, equations, Unifier, Clash}
use Rattle.case_verdicts.specs.Words.{state_of}
use Rattle.search_links.specs.Links.{root, linked_state, Linked, roots}

-- v is its own root: a constant, or made up and then what its slot has
abbrev pub RootValue : ℕ → List ℕ → ℕ → Type 0
RootValue top ws v = (v < top) ⊎ ((top ≤ v) × (v < top + length ws) × (get_or ws (v - top) 0 ≡ v))

abbrev pub RootValues : ℕ → List ℕ → List ℕ → Type 0
RootValues top ws u = (v : ℕ) → In v u → RootValue top ws v

-- whether a is made up and has a slot, and then the word of this slot is b
abbrev pub WrittenBy : Bool → ℕ → List ℕ → List ℕ → ℕ → ℕ → Type 0
WrittenBy true top ws out a b = (top ≤ a) × (a - top < length ws) × (out ≡ set ws (a - top) b)
WrittenBy false top ws out a b = ((a < top) ⊎ (top + length ws ≤ a)) × (out ≡ ws)

-- ---- two roots

-- the roots a and b have become one
pub record Merged (top : ℕ) (ws out : List ℕ) (a b : ℕ) : Type 0 where
  pub by : ℕ → ℕ
  pub unifier : Unifier top by ((a ≈ b) ∷ [])
  pub ends : (x : ℕ) → root top (state_of top out) x ≡ by (root top (state_of top ws) x)
  pub same : length out ≡ length ws
  pub linked : Linked top ws → Linked top out
  -- what is replaced is replaced by a or b, and no slot is written but theirs
  pub among : (x : ℕ) → In (by x) (x ∷ a ∷ b ∷ [])
  pub others : (n : ℕ) → (In (top + n) (a ∷ b ∷ []) → ⊥) → get_or out n 0 ≡ get_or ws n 0
  -- a map that does not tell a from b does not tell the new words from the old
  pub words : Linked top ws → (h : ℕ → ℕ) → h a ≡ h b → (n : ℕ) → h (state_of top out n) ≡ h (state_of top ws n)
  pub fewer : ((a ≡ b) × (out ≡ ws)) ⊎ (roots top out < roots top ws)

abbrev pub MergedBy : Bool → ℕ → List ℕ → List ℕ → ℕ → ℕ → Type 0
MergedBy true top ws out a b = Merged top ws out a b
MergedBy false top ws out a b = Clash top ((a ≈ b) ∷ []) × (out ≡ ws)

-- ---- two rows of roots

-- slots whose own values stand in neither u nor r are as they were
abbrev pub Others : ℕ → List ℕ → List ℕ → List ℕ → List ℕ → Type 0
Others top ws out u r = (n : ℕ) → (In (top + n) u → ⊥) → (In (top + n) r → ⊥) → get_or out n 0 ≡ get_or ws n 0

-- in each column the values of u and r have become one
pub record Equated (top : ℕ) (ws out u r : List ℕ) : Type 0 where
  pub by : ℕ → ℕ
  pub unifier : Unifier top by (equations u r)
  pub ends : (x : ℕ) → root top (state_of top out) x ≡ by (root top (state_of top ws) x)
  pub state : linked_state top out ≡ after by (linked_state top ws)
  pub same : length out ≡ length ws
  pub linked : Linked top ws → Linked top out
  pub others : Others top ws out u r
  -- a map that keeps constants and makes the rows one does not tell the new words from the old
  pub words : Linked top ws → (h : ℕ → ℕ) → Keeps top h → Met h (equations u r) → (n : ℕ) → h (state_of top out n) ≡ h (state_of top ws n)
  pub fewer : (u ≡ r) ⊎ (roots top out < roots top ws)

-- on a clash the slots of some columns have been written
abbrev pub MetBy : Bool → ℕ → List ℕ → List ℕ → List ℕ → List ℕ → Type 0
MetBy true top ws out u r = Equated top ws out u r
MetBy false top ws out u r = Clash top (equations u r) × (length out ≡ length ws) × Others top ws out u r

-- on a clash nothing has changed
abbrev pub EquatedBy : Bool → ℕ → List ℕ → List ℕ → List ℕ → List ℕ → Type 0
EquatedBy true top ws out u r = Equated top ws out u r
EquatedBy false top ws out u r = Clash top (equations u r) × (out ≡ ws)

-- each slot whose own value stands in u has it back, and the other slots are as they were
pub record Freed (top : ℕ) (ws out u : List ℕ) : Type 0 where
  pub same : length out ≡ length ws
  pub own : (n : ℕ) → In (top + n) u → n < length ws → get_or out n 0 ≡ top + n
  pub others : (n : ℕ) → (In (top + n) u → ⊥) → get_or out n 0 ≡ get_or ws n 0
