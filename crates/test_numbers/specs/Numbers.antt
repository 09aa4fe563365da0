-- What is read of digits.
use Rattle.std.specs.Prelude.{cond, List, [], ◌∷◌, ℕ, ◌+◌, ◌-◌, ◌*◌, min, ltb}

-- the largest number that is read
abbrev pub largest : ℕ
largest = 18446744073709551615

-- n with the digit b after it; any other byte leaves n
unfoldable pub longer : ℕ → ℕ → ℕ
longer n b = cond (ltb b 48) n (cond (ltb 57 b) n (n * 10 + (b - 48)))

-- the number that the digits of n and then those of the bytes make
abbrev pub value_after : ℕ → List ℕ → ℕ
value_after n [] = n
value_after n (b ∷ s) = value_after (longer n b) s

-- the number that the digits of the bytes make, or the largest one where that is larger
abbrev pub number_of : List ℕ → ℕ
number_of s = min (value_after 0 s) largest
