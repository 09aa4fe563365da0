-- A field: eight bytes that end in a decimal number without zeros in front, with its sign "-" (45) where it is below 0, and blanks (32) in
-- all columns to the left. A "+" is no sign, and 0 has none.
use Rattle.std.specs.Prelude.{Bool, true, false, cond, List, [], ◌∷◌, ◌++◌, ℕ, zero, suc, ◌+◌, ◌-◌, ◌*◌, ◌/◌, ◌%◌, eqb, ltb, leb, ℤ, pos, negsuc, length, take, drop, replicate}
use Rattle.sheet_format.specs.Limits.{field_byte_count, field_end, field_minus_end}
use Rattle.sheet_format.specs.declared.Digits.{Digits}
use Rattle.sheet_format.specs.declared.Digits.TheVariants.{Blank, Minus, Run, Broken}
use Rattle.sheet_format.specs.Answers.{Field}
use Rattle.sheet_format.specs.Answers.Field.{Number, Malformed}

-- ---- reading

-- a number v and one digit more
abbrev pub digit : Bool → ℕ → ℕ → Digits
digit neg v b = cond (ltb b 48) Broken (cond (ltb 57 b) Broken (Run neg (v * 10 + (b - 48))))

-- one byte more: after blanks a blank, a minus or a digit; after a minus a digit that is not 0; after a number that is not 0 a digit
abbrev pub byte : Digits → ℕ → Digits
byte Blank b = cond (eqb b 32) Blank (cond (eqb b 45) Minus (digit false 0 b))
byte Minus b = cond (eqb b 48) Broken (digit true 0 b)
byte (Run neg v) b = cond (eqb v 0) Broken (digit neg v b)
byte Broken b = Broken

-- the bytes of s, one after the other
unfoldable pub run : Digits → List ℕ → Digits
run d [] = d
run d (b ∷ s) = run (byte d b) s

-- a number with its sign
abbrev pub minus : ℕ → ℤ
minus zero = pos 0
minus (suc n) = negsuc n

abbrev pub signed : Bool → ℕ → ℤ
signed true v = minus v
signed false v = pos v

-- the field is what ends in a number
abbrev pub told : Digits → Field
told Blank = Malformed
told Minus = Malformed
told (Run neg v) = Number (signed neg v)
told Broken = Malformed

abbrev pub field_of : List ℕ → Field
field_of s = told (run Blank s)

-- the field at a place of a sheet's bytes
abbrev pub field_at : List ℕ → ℕ → Field
field_at s at = cond (leb (at + field_byte_count) (length s)) (field_of (take field_byte_count (drop at s))) Malformed

-- ---- writing

-- the k columns before the first digit
abbrev pub lead : ℕ → Bool → List ℕ
lead zero neg = []
lead (suc k) neg = replicate k 32 ++ (cond neg 45 32 ∷ [])

-- v in k columns: its last digit, and before it what is left of it, or blanks with the sign
unfoldable pub decimal : ℕ → Bool → ℕ → List ℕ
decimal zero neg v = []
decimal (suc k) neg v = cond (ltb v 10) (lead k neg) (decimal k neg (v / 10)) ++ ((48 + v % 10) ∷ [])

abbrev pub field_bytes : ℤ → List ℕ
field_bytes (pos n) = decimal field_byte_count false n
field_bytes (negsuc n) = decimal field_byte_count true (suc n)

-- the number is not too wide for a field
abbrev pub fits : ℤ → Bool
fits (pos n) = ltb n field_end
fits (negsuc n) = ltb (suc n) field_minus_end
