-- Keys among facts in plain numbers, by the table of a plan p. No promise to a caller rests on these.
use Rattle.std.specs.Prelude.{◌≡◌, Bool, true, false, List, ℕ, ◌+◌, ◌*◌, ◌/◌, ◌<◌, length, get_or, Option, Some, None}
use Rattle.tableau_plan.specs.Plan.{key_in}

-- facts i and k are alike in the first n columns
abbrev pub AlikeIn : List ℕ → ℕ → ℕ → ℕ → Type 0
AlikeIn ns i k n = (c : ℕ) → c < n → get_or ns (i * 5 + 1 + c) 0 ≡ get_or ns (k * 5 + 1 + c) 0

abbrev pub AlikeBy : Bool → List ℕ → ℕ → ℕ → ℕ → Type 0
AlikeBy true ns i k n = AlikeIn ns i k n
AlikeBy false ns i k n = AlikeIn ns i k n → ⊥

-- they have one relation, and are alike in its key
pub record SameKeyAt (p ns : List ℕ) (i k : ℕ) : Type 0 where
  pub relation : get_or ns (i * 5) 0 ≡ get_or ns (k * 5) 0
  pub some : 0 < key_in p (get_or ns (i * 5) 0)
  pub first : AlikeIn ns i k (key_in p (get_or ns (i * 5) 0))

-- then they are alike in all columns
abbrev pub KeySettled : List ℕ → List ℕ → ℕ → ℕ → Type 0
KeySettled p ns i k = SameKeyAt p ns i k → AlikeIn ns i k 4

-- or they are not: a violation
pub record KeyClash (p ns : List ℕ) (i k : ℕ) : Type 0 where
  pub left : i < length ns / 5
  pub right : k < length ns / 5
  pub key : SameKeyAt p ns i k
  pub differ : AlikeIn ns i k 4 → ⊥

abbrev pub ClashBy : Bool → List ℕ → List ℕ → ℕ → ℕ → Type 0
ClashBy true p ns i k = KeyClash p ns i k
ClashBy false p ns i k = KeySettled p ns i k

-- of all facts
pub record KeysHold (p ns : List ℕ) : Type 0 where
  pub each : (i k : ℕ) → i < length ns / 5 → k < length ns / 5 → KeySettled p ns i k

abbrev pub KeysBy : Bool → List ℕ → List ℕ → ℕ → ℕ → Type 0
KeysBy true p ns i k = KeyClash p ns i k
KeysBy false p ns i k = KeysHold p ns

-- of fact i and those after it, up to fact m
abbrev pub SettledTo : List ℕ → List ℕ → ℕ → ℕ → Type 0
SettledTo p ns i m = (k : ℕ) → i < k → k < m → KeySettled p ns i k

-- a fact after fact i that clashes with it; none where none does
abbrev pub ClashingFact : List ℕ → List ℕ → ℕ → Option ℕ → Type 0
ClashingFact p ns i (Some k) = KeyClash p ns i k
ClashingFact p ns i None = SettledTo p ns i (length ns / 5)
