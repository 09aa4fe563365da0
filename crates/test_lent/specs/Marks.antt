-- How lent words are marked.
use Rattle.std.specs.Prelude.{◌≡◌, Bool, true, false, cond, List, [], ◌∷◌, ℕ, zero, suc, ◌+◌, ltb, ℤ, pos}

-- the mark of a place
unfoldable pub place_mark : ℕ → ℤ
place_mark i = pos (cond (ltb i 100000) (70000000 + i) 70000000)

-- the marks of n places, the first of which is i
abbrev pub marks : ℕ → ℕ → List ℤ
marks i zero = []
marks i (suc n) = place_mark i ∷ marks (suc i) n

-- a test that holds exactly where a fact does
pub record Tells (r : Bool) (Fact : Type 0) : Type 0 where
  pub yes : r ≡ true → Fact
  pub no : r ≡ false → Fact → ⊥
