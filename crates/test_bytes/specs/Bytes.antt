-- The bytes that a text stands for.
use Rattle.std.specs.Prelude.{cond, List, [], ◌∷◌, ◌++◌, ℕ, zero, suc, ◌+◌, ◌-◌, ◌*◌, ltb, eqb, replicate}

-- the value of a hexadecimal digit, and 0 of any other byte
unfoldable pub digit_value : ℕ → ℕ
digit_value b = cond (ltb b 48) 0 (cond (ltb b 58) (b - 48) (cond (ltb b 97) 0 (cond (ltb b 103) (b - 87) 0)))

-- the byte of two hexadecimal digits, and 0 where they are not there
unfoldable pub escaped_by : List ℕ → ℕ
escaped_by [] = 0
escaped_by (h ∷ []) = 0
escaped_by (h ∷ l ∷ s) = digit_value h * 16 + digit_value l

-- what byte b of a text stands for, with s after it: "," and ";" for blanks, "/" for byte 10, "\" for the byte of two digits
unfoldable pub meant_by : ℕ → List ℕ → ℕ
meant_by b s = cond (eqb b 44) 32 (cond (eqb b 59) 32 (cond (eqb b 47) 10 (cond (eqb b 92) (escaped_by s) b)))

-- how often
unfoldable pub times_of : ℕ → ℕ
times_of b = cond (eqb b 44) 7 (cond (eqb b 59) 6 1)

-- how many bytes after b belong to it
unfoldable pub extent : ℕ → ℕ
extent b = cond (eqb b 92) 2 0

-- the bytes that a text stands for, its first k passed over
unfoldable pub stands_for : ℕ → List ℕ → List ℕ
stands_for k [] = []
stands_for (suc k) (b ∷ s) = stands_for k s
stands_for zero (b ∷ s) = replicate (times_of b) (meant_by b s) ++ stands_for (extent b) s
