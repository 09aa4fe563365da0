-- Bytes put over those of a buffer, from a place on, as many as fit.
use Rattle.std.specs.Prelude.{◌≡◌, List, ◌++◌, ℕ, ◌+◌, ◌-◌, min, length, take, drop}

-- how many bytes of s fit from place `at` on into a buffer of n bytes
abbrev pub fitting : ℕ → ℕ → List ℕ → ℕ
fitting n at s = min (length s) (n - at)

-- the place after them
unfoldable pub reached : ℕ → ℕ → List ℕ → ℕ
reached n at s = at + fitting n at s

-- the buffer with them: what stands before the place, those of s that fit, and what stands after them
unfoldable pub placed : List ℕ → ℕ → List ℕ → List ℕ
placed out at s = take at out ++ take (fitting (length out) at s) s ++ drop (at + fitting (length out) at s) out

-- `new` is `old` with s put at a place, and r the place after
pub record Put (old new : List ℕ) (at : ℕ) (s : List ℕ) (r : ℕ) : Type 0 where
  pub bytes : new ≡ placed old at s
  pub place : r ≡ reached (length old) at s
