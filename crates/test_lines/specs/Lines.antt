-- What is read of a line.
use Rattle.std.specs.Prelude.{◌≡◌, ◌⊎◌, Option, List, [], ◌∷◌, ◌++◌, ℕ, ◌≤◌, ◌<◌, length, get_or, take, drop}
use Rattle.std.specs.Io.KnownBytes.{Consumes, IsAtEnd}

-- a line of r bytes at the start of `new`: none of them is byte 10, and those after them are as in `old`
pub record LineIn (old new : List ℕ) (r : ℕ) : Type 0 where
  pub within : r ≤ length new
  pub plain : (k : ℕ) → k < r → get_or new k 0 ≡ 10 → ⊥
  pub rest : drop r new ≡ drop r old

-- a byte b is taken from known bytes, or byte 10 where none is left
abbrev pub TakesByte : Option (List ℕ) → Option (List ℕ) → ℕ → Type 0
TakesByte old new b = Consumes old new (b ∷ []) ⊎ ((b ≡ 10) × Consumes old new [] × IsAtEnd new)

-- the r bytes at the start of `out` are taken from known bytes, and byte 10 after them; or they alone, where none is left or there is no room
abbrev pub TakesLine : Option (List ℕ) → Option (List ℕ) → List ℕ → ℕ → Type 0
TakesLine old new out r = Consumes old new (take r out ++ 10 ∷ []) ⊎ (Consumes old new (take r out) × (r < length out → IsAtEnd new))

-- some bytes of a line are taken from known bytes and stand at the start of `new`
abbrev pub BreaksOff : Option (List ℕ) → Option (List ℕ) → List ℕ → List ℕ → Type 0
BreaksOff before after old new = (r : ℕ) × LineIn old new r × Consumes before after (take r new)

-- none of the bytes is byte 10
abbrev pub HasNoEnd : List ℕ → Type 0
HasNoEnd s = (k : ℕ) → k < length s → get_or s k 0 ≡ 10 → ⊥

-- a line that is given: it has bytes, and none of them is byte 10
pub record IsLine (s : List ℕ) : Type 0 where
  pub some : 0 < length s
  pub plain : HasNoEnd s
