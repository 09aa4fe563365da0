-- The bytes before the first byte 10.
use Rattle.std.specs.Prelude.{cond, List, [], ◌∷◌, ℕ, suc, eqb}

-- how many bytes stand before the first byte 10
unfoldable pub before_end : List ℕ → ℕ
before_end [] = 0
before_end (b ∷ s) = cond (eqb b 10) 0 (suc (before_end s))
