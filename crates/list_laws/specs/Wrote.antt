-- Values written over those of a list.
use Rattle.std.specs.Prelude.{◌≡◌, List, ◌++◌, ℕ, ◌+◌, length, take, drop}

-- b is a with vs written from `at` on, up to `to`
pub record Wrote {A : Type 0} (a b : List A) (at to : ℕ) (vs : List A) : Type 0 where
  pub end : to ≡ at + length vs
  pub same : length b ≡ length a
  pub front : take to b ≡ take at a ++ vs
  pub back : drop to b ≡ drop to a
