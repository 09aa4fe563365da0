-- What a failure of the search rests on. The words of a state are equations: a word says what its slot's value is. A failure rests on some slots
-- when no good state obeys their words, whatever the other slots have. No promise to a caller rests on these.
use Rattle.std.specs.Prelude.{◌≡◌, Bool, true, false, List, ◌⊎◌, ℕ, ◌+◌, ◌*◌, ◌<◌}
use Rattle.tableau_layout.specs.Layout.{slot_end}
use Rattle.query_meaning.specs.Meaning.{In}
use Rattle.case_verdicts.specs.Sheets.{top}
use Rattle.case_verdicts.specs.Tableau.{State}
use Rattle.case_verdicts.specs.Search.{equations, Met}
use Rattle.case_verdicts.specs.Words.{state_of}
use Rattle.tableau_plan.specs.Plan.{slot_value}
use Rattle.search_slots.specs.Slots.{set_words, in_set, SetWithin}
use Rattle.search_links.specs.Links.{place_root, value_under}

-- t obeys the words of the slots in the set
abbrev pub Obeys : State → List ℕ → List ℕ → Type 0
Obeys t ws set = (n : ℕ) → in_set set n ≡ true → value_under top t (state_of top ws n) ≡ t n

-- no good state does
pub record RestsOn (G : State → Type 0) (ws set : List ℕ) : Type 0 where
  pub none : (t : State) → G t → Obeys t ws set → ⊥

-- no good state does that makes the values of two rows one: this alternative fails
pub record AlternativeFails (G : State → Type 0) (ws set u r : List ℕ) : Type 0 where
  pub none : (t : State) → G t → Obeys t ws set → Met (value_under top t) (equations u r) → ⊥

-- no good state does where slot n has the value w
pub record ValueFails (G : State → Type 0) (ws set : List ℕ) (n w : ℕ) : Type 0 where
  pub none : (t : State) → G t → Obeys t ws set → t n ≡ w → ⊥

-- a place of the tableau: a slot, or a constant past the slots
abbrev pub Place : ℕ → Type 0
Place w = w < slot_end + top

-- the set has the slots besides by which the place's value is where its links end
pub record WayMarked (ws : List ℕ) (w : ℕ) (old set : List ℕ) : Type 0 where
  pub more : SetWithin old set
  pub way : (t : State) → Obeys t ws set → slot_value t w ≡ value_under top t (place_root top ws w)

-- and those by which two places have one value
pub record AgreementMarked (ws : List ℕ) (w z : ℕ) (old set : List ℕ) : Type 0 where
  pub more : SetWithin old set
  pub same : (t : State) → Obeys t ws set → slot_value t w ≡ slot_value t z

abbrev pub AgreesBy : Bool → List ℕ → ℕ → ℕ → List ℕ → List ℕ → Type 0
AgreesBy true ws w z old set = AgreementMarked ws w z old set
AgreesBy false ws w z old set = set ≡ old

-- the slots of a row's made-up values besides
pub record SlotsAdded (u old set : List ℕ) : Type 0 where
  pub has : (n : ℕ) → In (top + n) u → in_set set n ≡ true
  pub rest : (n : ℕ) → (In (top + n) u → ⊥) → in_set set n ≡ in_set old n

-- the slots of the made-up values of two rows
abbrev pub SlotOf : List ℕ → List ℕ → ℕ → Type 0
SlotOf u r n = In (top + n) u ⊎ In (top + n) r

pub record SlotsOf (u r set : List ℕ) : Type 0 where
  pub has : (n : ℕ) → SlotOf u r n → in_set set n ≡ true
  pub none : (n : ℕ) → n < 64 * set_words → (SlotOf u r n → ⊥) → in_set set n ≡ false
