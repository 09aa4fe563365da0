-- A signed word as a number.
use mathlib.Core.Path.{◌≡◌, refl}
use mathlib.Core.Bool.{true}
use native.Mathlib.Omega.{arith}
use lib.IntN.{ℤ, pos, negsuc}
use lib.Signed.{lt_z}
use borrow.Author.Tests.{ltb-true}
use Rattle.sheet_format.specs.Line.{natural as to_nat}

-- a word below 0 is no number
pub no-natural : (z : ℤ) → lt_z z (pos 0) ≡ true → 0 ≡ to_nat z
no-natural (pos n) e = let h = ltb-true n 0 e in absurd (omega arith)
no-natural (negsuc n) e = refl
