-- A part of the bytes of a sheet.
use Rattle.std.specs.Prelude.{◌≡◌, List, ℕ, ◌-◌, ◌≤◌, length, take, drop}

-- a part of the bytes
pub record Part (s : List ℕ) (start end : ℕ) (is : List ℕ) : Type 0 where
  pub ordered : start ≤ end
  pub within : end ≤ length s
  pub here : take (end - start) (drop start s) ≡ is
