use Rattle.std.specs.Prelude.{ℕ, ◌<◌}
use Rattle.sheet_format.specs.declared.Digits.{Digits}
use Rattle.sheet_format.specs.declared.Digits.TheVariants.{Blank, Minus, Run, Broken}

-- the number so far is below k
abbrev pub DigitsBelow : ℕ → Digits → Type 0
DigitsBelow k Blank = Unit {0}
DigitsBelow k Minus = Unit {0}
DigitsBelow k (Run neg v) = v < k
DigitsBelow k Broken = Unit {0}
