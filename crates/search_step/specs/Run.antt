-- What the search's contracts cite: where it stands with a node. No promise to a caller rests on these.
use Rattle.std.specs.Prelude.{◌≡◌, Bool, true, false, cond, not, List, [], ◌∷◌, ◌⊎◌, ℕ, ◌+◌, ◌-◌, ◌*◌, ◌<◌, ◌≤◌, ltb, length, get_or}
use Rattle.tableau_layout.specs.Layout.{slot_end}
use Rattle.query_meaning.specs.Meaning.{In}
use Rattle.case_verdicts.specs.Verdict.{Sheet}
use Rattle.case_verdicts.specs.Sheets.{top}
use Rattle.case_verdicts.specs.Tableau.{State, Copy, jobs, numbered, copy, Meets, Good}
use Rattle.case_verdicts.specs.Search.{free, Refuted}
use Rattle.search_slots.specs.Slots.{in_set, SetWithin}
use Rattle.search_links.specs.Links.{Linked, linked_state, roots}
use Rattle.search_links.specs.Steps.{RootValues, Equated}
use Rattle.search_reasons.specs.Reasons.{RestsOn, AlternativeFails, ValueFails}
use Rattle.search_nogoods.specs.Memory.{EachValue, RowExcluded}
use Rattle.search_symmetry.specs.Symmetry.{Alike}
use Rattle.search_node.specs.Choices.{rows_kind, node_kind, node_hint, left_of, right_of, how_many, LiveAt}
use Rattle.search_node.specs.Node.{Standing, Wordly, StateFound, OpenState, NodeBy}

-- the values that slots cannot have: what the table says is so
abbrev pub Remembers : (State → Type 0) → List ℕ → List ℕ → List ℕ → Type 0
Remembers G ws sl sm = EachValue (λ n w set. (w < top) × ValueFails G ws set n w) sl sm

-- no good state obeys the words of the set; the words are as they were, and what the table says is so
pub record Lost (G : State → Type 0) (ws out set sl sm : List ℕ) : Type 0 where
  pub rests : RestsOn G ws set
  pub kept : out ≡ ws
  pub memory : Remembers G ws sl sm

abbrev pub FoundOrLost : Bool → Sheet → Sheet → List ℕ → List ℕ → List ℕ → List ℕ → List ℕ → List ℕ → Type 0
FoundOrLost true x y ws end set sl sm out = StateFound x y out
FoundOrLost false x y ws end set sl sm out = Lost (Good y) ws end set sl sm

-- where a search begins: words from which it may go on, with fewer made-up values that are their own roots than steps left, and an open node
pub record SearchBegun (p : List ℕ) (x y : Sheet) (ws : List ℕ) (left : ℕ) (set node sl sm : List ℕ) : Type 0 where
  pub wordly : Wordly x y ws
  pub room : roots top ws < left
  pub opened : OpenState p x (Good y) ws set node
  pub memory : Remembers (Good y) ws sl sm

-- ---- turns

-- each alternative has two turns, one in each round: the hinted ones are tried in the first, the others in the second
unfoldable pub turn_of : ℕ → ℕ → ℕ
turn_of count i = cond (ltb i count) i (i - count)

unfoldable pub is_its_turn : ℕ → ℕ → ℕ → Bool
is_its_turn hint count i = cond (ltb i count) (in_set (hint ∷ []) (turn_of count i)) (not (in_set (hint ∷ []) (turn_of count i)))

-- the alternative of a node's turn i, and whether it is tried then
abbrev pub node_turn_at : List ℕ → List ℕ → ℕ → ℕ
node_turn_at p node i = turn_of (how_many p node) i

abbrev pub is_turn_at : List ℕ → List ℕ → ℕ → Bool
is_turn_at p node i = is_its_turn (node_hint node) (how_many p node) i

-- alternative k fails, by the words of the set
abbrev pub FailsAt : List ℕ → (State → Type 0) → List ℕ → List ℕ → List ℕ → ℕ → Type 0
FailsAt p G ws set node k = AlternativeFails G ws set (left_of node k) (right_of p node k)

-- a live alternative that had its turn fails, whatever the words of slots that are not in the set
pub record TriedTurns (p : List ℕ) (G : State → Type 0) (ws set node : List ℕ) (n : ℕ) : Type 0 where
  pub each : (s : List ℕ) → SetWithin set s → (i : ℕ) → i < n → is_turn_at p node i ≡ true → LiveAt p node (node_turn_at p node i) → FailsAt p G ws s node (node_turn_at p node i)

-- the last alternative that was tried in vain
pub record Failed (p : List ℕ) (G : State → Type 0) (ws set below node : List ℕ) (last : ℕ) : Type 0 where
  pub fails : FailsAt p G ws below node last
  pub within : SetWithin below set

-- where a search stands with a node after n turns
pub record Going (p : List ℕ) (x : Sheet) (G : State → Type 0) (ws st set node : List ℕ) (n : ℕ) (below : List ℕ) (last : ℕ) (sl sm : List ℕ) : Type 0 where
  pub same : st ≡ ws
  pub opened : OpenState p x G ws set node
  pub tried : TriedTurns p G ws set node n
  pub failed : last < how_many p node → Failed p G ws set below node last
  pub memory : Remembers G ws sl sm

-- alternative k need not be tried: it is not live, it is a listed row like the last one that failed, or the table excludes it
abbrev pub RefutedAs : Bool → List ℕ → List ℕ → List ℕ → ℕ → ℕ → List ℕ → List ℕ → List ℕ → List ℕ → List ℕ → Type 0
RefutedAs true p ws node last k below sl sm old set =
    ((LiveAt p node k → ⊥) × (set ≡ old)) ⊎ (((node_kind node ≡ rows_kind) × Alike p ws below (left_of node k) last k × (set ≡ old)) ⊎ RowExcluded (left_of node k) (right_of p node k) sl sm old set)
RefutedAs false p ws node last k below sl sm old set = LiveAt p node k × (set ≡ old)

-- what a failure after the step of two rows says before it: a failure that does not rest on the step, or a failure of the two rows, and its slots are
-- in the set
pub record RowLeft (G : State → Type 0) (ws out u r below old set sl sm : List ℕ) : Type 0 where
  pub kept : out ≡ ws
  pub fails : AlternativeFails G ws below u r
  pub within : SetWithin below set
  pub more : SetWithin old set
  pub memory : Remembers G ws sl sm

abbrev pub LeftBy : Bool → (State → Type 0) → List ℕ → List ℕ → List ℕ → List ℕ → List ℕ → List ℕ → List ℕ → List ℕ → List ℕ → Type 0
LeftBy true G ws out u r below old set sl sm = Lost G ws out set sl sm
LeftBy false G ws out u r below old set sl sm = RowLeft G ws out u r below old set sl sm

-- so it is for the words and the table before any step that made two rows one, and every sheet
abbrev pub UndoneBy : Bool → List ℕ → List ℕ → List ℕ → List ℕ → List ℕ → List ℕ → List ℕ → List ℕ → List ℕ → List ℕ → List ℕ → List ℕ → Type 0
UndoneBy jump u r ws below sl sm out less old set nl nm =
    (y : Sheet) (was : List ℕ) → length was ≡ slot_end → Linked top was → RootValues top was u → RootValues top was r → Equated top was ws u r
    → RestsOn (Good y) ws below → Remembers (Good y) ws sl sm → LeftBy jump (Good y) was out u r less old set nl nm

-- ---- from one alternative to the next

-- from the words ws the alternative of the turn before i was taken, which led to the words out
pub record Taken (p : List ℕ) (x : Sheet) (G : State → Type 0) (ws set node : List ℕ) (i : ℕ) (out sl sm : List ℕ) : Type 0 where
  pub turn : ℕ
  pub after : i ≡ turn + 1
  pub few : turn < 2 * how_many p node
  pub opened : OpenState p x G ws set node
  pub tried : TriedTurns p G ws set node turn
  pub live : LiveAt p node (node_turn_at p node turn)
  pub step : Equated top ws out (left_of node (node_turn_at p node turn)) (right_of p node (node_turn_at p node turn))
  pub memory : Remembers G out sl sm

-- the next one was taken; 0: none is left
pub record Advanced (p : List ℕ) (x : Sheet) (G : State → Type 0) (ws set node : List ℕ) (i : ℕ) (out sl sm : List ℕ) : Type 0 where
  pub on : 0 < i → Taken p x G ws set node i out sl sm
  pub over : i ≡ 0 → Lost G ws out set sl sm

-- none was taken yet, or one has failed by the words of the slots below
pub record Behind (p : List ℕ) (x : Sheet) (G : State → Type 0) (ws set node : List ℕ) (i : ℕ) (out below sl sm : List ℕ) : Type 0 where
  pub first : i ≡ 0 → (out ≡ ws) × OpenState p x G ws set node × Remembers G ws sl sm
  pub later : 0 < i → Taken p x G ws set node i out sl sm × RestsOn G out below

-- ---- what is seen one step ahead

-- what was looked into leaves the words; where it is so, no good state obeys those of the set
pub record LookedInto (G : State → Type 0) (so : Bool) (ws out set : List ℕ) : Type 0 where
  pub kept : out ≡ ws
  pub rests : so ≡ true → RestsOn G ws set

-- and what the table says then is so
pub record LearntAhead (G : State → Type 0) (so : Bool) (ws out set sl sm : List ℕ) : Type 0 where
  pub kept : out ≡ ws
  pub rests : so ≡ true → RestsOn G ws set
  pub memory : Remembers G ws sl sm

-- what a state is found to be; the words stay, and what the table says is so
pub record JudgedState (good : Bool) (p : List ℕ) (x y : Sheet) (ws out set node found sl sm : List ℕ) : Type 0 where
  pub kept : out ≡ ws
  pub judged : NodeBy good p x y ws set node found
  pub memory : Remembers (Good y) ws sl sm

-- ---- the heads of the copies

-- those of copies 0 to i are what they must be, and where nothing below is good nothing is at all
pub record Heads (x y : Sheet) (ws : List ℕ) (i : ℕ) : Type 0 where
  pub size : length ws ≡ slot_end
  pub linked : Linked top ws
  pub stood : (n : ℕ) → n < slot_end → Standing x (get_or ws n 0)
  pub heads : (c : Copy) → In c (numbered (jobs y)) → c.number ≤ i → Meets (copy (linked_state top ws) c.number) c.job
  pub back : Refuted top y (linked_state top ws) → Refuted top y (free top)

abbrev pub HeadsBy : Bool → Sheet → Sheet → List ℕ → ℕ → Type 0
HeadsBy true x y ws i = Heads x y ws i
HeadsBy false x y ws i = Refuted top y (free top)

-- a good state was found, or none obeys the words
abbrev pub LookedBy : Bool → Sheet → Sheet → List ℕ → List ℕ → Type 0
LookedBy true x y ws out = StateFound x y out
LookedBy false x y ws out = RestsOn (Good y) ws []

-- a good state in the words, or none at all
abbrev pub FoundBy : Bool → Sheet → Sheet → List ℕ → Type 0
FoundBy true x y out = StateFound x y out
FoundBy false x y out = Refuted top y (free top)
