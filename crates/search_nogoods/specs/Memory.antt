-- A table of values that slots of the search cannot have, each with the slots that this rests on. No promise to a caller rests on these.
use Rattle.std.specs.Prelude.{◌≡◌, Bool, true, false, List, ◌⊎◌, ℕ, ◌+◌, ◌*◌, ◌<◌, min, length, get_or, take, drop}
use Rattle.case_verdicts.specs.Sheets.{top}
use Rattle.search_slots.specs.Slots.{set_words, in_set, SetWithout, SetJoined}
use Rattle.search_nogoods.specs.Sizes.{most_values, memory_count_at}

-- entry e: its slot, its value, and the set that it rests on; how many entries there are
abbrev pub memory_slot : List ℕ → ℕ → ℕ
memory_slot sl e = get_or sl (e * 2) 0

abbrev pub memory_value : List ℕ → ℕ → ℕ
memory_value sl e = get_or sl (e * 2 + 1) 0

abbrev pub memory_set : List ℕ → ℕ → List ℕ
memory_set sm e = take set_words (drop (e * set_words) sm)

abbrev pub memory_count : List ℕ → ℕ
memory_count sl = min (get_or sl memory_count_at 0) most_values

-- every entry has a property
pub record EachValue (P : ℕ → ℕ → List ℕ → Type 0) (sl sm : List ℕ) : Type 0 where
  pub each : (e : ℕ) → e < memory_count sl → P (memory_slot sl e) (memory_value sl e) (memory_set sm e)

-- entry e of a table is entry f of another
pub record SameValue (sl sm : List ℕ) (e : ℕ) (tl tm : List ℕ) (f : ℕ) : Type 0 where
  pub slot : memory_slot sl e ≡ memory_slot tl f
  pub value : memory_value sl e ≡ memory_value tl f
  pub rests : memory_set sm e ≡ memory_set tm f

-- each entry of the table afterwards is one of those before, or has a property
pub record MemoryMore (P : ℕ → ℕ → List ℕ → Type 0) (sl sm tl tm : List ℕ) : Type 0 where
  pub each : (f : ℕ) → f < memory_count tl
      → ((e : ℕ) × (e < memory_count sl) × SameValue tl tm f sl sm e) ⊎ P (memory_slot tl f) (memory_value tl f) (memory_set tm f)

-- an entry says that slot n cannot have the value w, and rests on the set
pub record NotedValue (n w : ℕ) (set : List ℕ) (m v : ℕ) (rest : List ℕ) : Type 0 where
  pub slot : m ≡ n
  pub value : v ≡ w
  pub rests : rest ≡ set

-- no slot is in both sets
pub record SetsApart (a b : List ℕ) : Type 0 where
  pub each : (k : ℕ) → k < 64 * set_words → in_set a k ≡ true → in_set b k ≡ false

-- each entry of the table afterwards is one of those before, and rests on no slot of the set
pub record MemoryLess (set sl sm tl tm : List ℕ) : Type 0 where
  pub each : (f : ℕ) → f < memory_count tl → (e : ℕ) × (e < memory_count sl) × SameValue tl tm f sl sm e × SetsApart (memory_set tm f) set

-- an entry says that the slot of a made-up value of u cannot have the value that the row has there, and what it rests on was put into a set
pub record RowExcluded (u row sl sm old set : List ℕ) : Type 0 where
  pub column : ℕ
  pub entry : ℕ
  pub few : column < 4
  pub there : entry < memory_count sl
  pub slot : get_or u column 0 ≡ top + memory_slot sl entry
  pub value : get_or row column 0 ≡ memory_value sl entry
  pub joined : SetJoined old (memory_set sm entry) set

abbrev pub ExcludedBy : Bool → List ℕ → List ℕ → List ℕ → List ℕ → List ℕ → List ℕ → Type 0
ExcludedBy true u row sl sm old set = RowExcluded u row sl sm old set
ExcludedBy false u row sl sm old set = set ≡ old

-- an entry for the value w of slot n in the words ws: it rests on the set below without the slot, and on no slot that changed
pub record LearnedValue (ws below changed : List ℕ) (n w : ℕ) (rest : List ℕ) : Type 0 where
  pub inside : n < length ws
  pub value : w ≡ get_or ws n 0
  pub constant : w < top
  pub without : SetWithout below n rest
  pub apart : SetsApart rest changed
