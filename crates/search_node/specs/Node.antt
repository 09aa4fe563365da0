-- What a state of the search is found to be. No promise to a caller rests on these.
use Rattle.std.specs.Prelude.{◌≡◌, Bool, true, false, List, ◌⊎◌, ℕ, ◌+◌, ◌<◌, ◌≤◌, length, get_or}
use Rattle.tableau_layout.specs.Layout.{slot_end}
use Rattle.case_verdicts.specs.Verdict.{Sheet}
use Rattle.case_verdicts.specs.Handed.{Stands}
use Rattle.case_verdicts.specs.Sheets.{top}
use Rattle.case_verdicts.specs.Tableau.{State, Good}
use Rattle.case_verdicts.specs.Words.{state_of}
use Rattle.tableau_plan.specs.Plan.{row_at, row_values, row_count, tableau_at, tableau_size}
use Rattle.search_task.specs.Task.{HeadsSettled, from_by}
use Rattle.search_task.specs.declared.Goal.{Goal}
use Rattle.search_slots.specs.Slots.{SetWithin}
use Rattle.search_links.specs.Links.{Linked, linked_state}
use Rattle.search_links.specs.Steps.{RootValues}
use Rattle.search_reasons.specs.Reasons.{RestsOn, AlternativeFails}
use Rattle.search_node.specs.Choices.{left_of, right_of, LiveAt}

-- a number of the sheet, or made up
abbrev pub Standing : Sheet → ℕ → Type 0
Standing x v = Stands x v ⊎ ((top ≤ v) × (v < top + slot_end))

-- words from which a search may go on: as many as slots, links that lead down, values that stand, and the copies' heads as they must be
pub record Wordly (x y : Sheet) (ws : List ℕ) : Type 0 where
  pub size : length ws ≡ slot_end
  pub linked : Linked top ws
  pub stood : (n : ℕ) → n < slot_end → Standing x (get_or ws n 0)
  pub settled : HeadsSettled y (linked_state top ws)

-- a slot has this word
abbrev pub WordOf : List ℕ → ℕ → Type 0
WordOf ws v = (n : ℕ) × (n < slot_end) × (get_or ws n 0 ≡ v)

-- a term of the tableau is this place: of its atom i, or of any
abbrev pub TermAt : List ℕ → ℕ → ℕ → Type 0
TermAt p i w = (c : ℕ) × (c < 4) × (tableau_at p i (1 + c) ≡ w)

abbrev pub TableauTerm : List ℕ → ℕ → Type 0
TableauTerm p w = (i : ℕ) × (i < tableau_size p) × TermAt p i w

-- two atoms of the tableau that a search has
pub record AtomsOf (goal : Goal) (p : List ℕ) (i k : ℕ) : Type 0 where
  pub left : (from_by goal p ≤ i) × (i < tableau_size p)
  pub right : (from_by goal p ≤ k) × (k < tableau_size p)

-- a good state, each slot's word its value
pub record StateFound (x y : Sheet) (out : List ℕ) : Type 0 where
  pub good : Good y (state_of top out)
  pub size : length out ≡ slot_end
  pub stood : (n : ℕ) → n < slot_end → Standing x (get_or out n 0)

-- where u has a made-up value, that of the row is a number of the sheet or made up
abbrev pub FitsRow : Sheet → List ℕ → List ℕ → Type 0
FitsRow x u r = (c : ℕ) → c < 4 → top ≤ get_or u c 0 → Standing x (get_or r c 0)

-- a row that a view is given and that is not listed: its alternatives, the view's listed rows, decide, whatever the words of slots that are not in
-- the set
pub record RowOpen (p : List ℕ) (x : Sheet) (G : State → Type 0) (ws set : List ℕ) (view : ℕ) (u : List ℕ) : Type 0 where
  pub size : length u ≡ 4
  pub roots : RootValues top ws u
  pub fits : (i : ℕ) → i < row_count p → row_at p i 0 ≡ view → FitsRow x u (row_values p i)
  pub other : (i : ℕ) → i < row_count p → row_at p i 0 ≡ view → u ≡ row_values p i → ⊥
  pub decide : (s : List ℕ) → SetWithin set s → ((i : ℕ) → i < row_count p → row_at p i 0 ≡ view → AlternativeFails G ws s u (row_values p i)) → RestsOn G ws s

-- two rows of roots that a step can make one: they differ, and what it writes stands
pub record Joinable (x : Sheet) (ws u r : List ℕ) : Type 0 where
  pub left : RootValues top ws u
  pub right : RootValues top ws r
  pub fits : FitsRow x u r
  pub back : FitsRow x r u
  pub other : u ≡ r → ⊥

-- a node whose alternatives decide, whatever the words of slots that are not in the set
pub record OpenState (p : List ℕ) (x : Sheet) (G : State → Type 0) (ws set node : List ℕ) : Type 0 where
  pub joinable : (k : ℕ) → LiveAt p node k → Joinable x ws (left_of node k) (right_of p node k)
  pub decide : (s : List ℕ) → SetWithin set s → ((k : ℕ) → LiveAt p node k → AlternativeFails G ws s (left_of node k) (right_of p node k)) → RestsOn G ws s

-- a good state, or a node; a node with no alternatives is refuted
abbrev pub NodeBy : Bool → List ℕ → Sheet → Sheet → List ℕ → List ℕ → List ℕ → List ℕ → Type 0
NodeBy true p x y ws set node out = StateFound x y out
NodeBy false p x y ws set node out = OpenState p x (Good y) ws set node
