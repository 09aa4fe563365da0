-- A range of a list written, by its places; past the end stands d.
use Rattle.std.specs.Prelude.{◌≡◌, List, ℕ, ◌<◌, ◌≤◌, length, get_or}

-- q is p but for the places from `from` to before `end`
pub record Kept {A : Type 0} (d : A) (p q : List A) (from end : ℕ) : Type 0 where
  pub same : length q ≡ length p
  pub below : (y : ℕ) → y < from → get_or q y d ≡ get_or p y d
  pub above : (y : ℕ) → end ≤ y → get_or q y d ≡ get_or p y d

-- and at those places it has the values of f
pub record Filled {A : Type 0} (d : A) (p q : List A) (from end : ℕ) (f : ℕ → A) : Type 0 where
  pub kept : Kept d p q from end
  pub each : (y : ℕ) → from ≤ y → y < end → get_or q y d ≡ f y
