-- The number that digits make, and that it may be cut to the largest one at each digit.
use mathlib.Core.Path.{◌≡◌, refl}
use mathlib.Core.Bool.{Bool, true, false, cond}
use mathlib.Core.List.{List, [], ◌∷◌}
use Prim.Native.Nat.{ℕ, suc, ◌+◌, ◌-◌, ◌*◌, ◌≤◌, ◌<◌, min}
use native.Mathlib.Numerals.{add-one}
use native.Mathlib.Omega.{arith}
use lib.Dec.{ltb}
use lib.ListN.{length, get_or, drop}
use lib.Seq.{drop-cons}
use borrow.Author.Tests.{lt-ltb, le-ltb, ltb-true, ltb-false}
use Rattle.test_numbers.specs.Numbers.{largest, longer, value_after}

-- a byte below the digits
pub longer-low : (n b : ℕ) → b < 48 → longer n b ≡ n
unfolding longer
longer-low n b h = rw (lt-ltb b 48 h)

-- a byte above the digits
pub longer-high : (n b : ℕ) → 57 < b → longer n b ≡ n
unfolding longer
longer-high n b h = rw (le-ltb b 48 (omega arith), lt-ltb 57 b h)

-- a digit
pub longer-digit : (n b : ℕ) → 48 ≤ b → b ≤ 57 → longer n b ≡ n * 10 + (b - 48)
unfolding longer
longer-digit n b h k = rw (le-ltb b 48 h, le-ltb 57 b k)

either : (p q : Bool) (n d : ℕ) → n ≤ cond p n (cond q n (n * 10 + d))
either true q n d = omega arith
either false true n d = omega arith
either false false n d = omega arith

longer-grows : (n b : ℕ) → n ≤ longer n b
unfolding longer
longer-grows n b = either (ltb b 48) (ltb 57 b) n (b - 48)

grows : (n : ℕ) (s : List ℕ) → n ≤ value_after n s
grows n [] = omega arith
grows n (b ∷ s) = let h = grows (longer n b) s in let g = longer-grows n b in omega arith

clip-by : (t : Bool) (n : ℕ) (s : List ℕ) → ltb n largest ≡ t → min (value_after (min n largest) s) largest ≡ min (value_after n s) largest
clip-by true n s e =
    let h = ltb-true n largest e in
    let f : min n largest ≡ n = omega arith in
    rw f
clip-by false n s e =
    let h = ltb-false n largest e in
    let f : min n largest ≡ largest = omega arith in
    let a = grows n s in
    let b = grows largest s in
    rw f (omega arith)

-- a number cut to the largest one makes the same number in the end
clip : (n : ℕ) (s : List ℕ) → min (value_after (min n largest) s) largest ≡ min (value_after n s) largest
clip n s = clip-by (ltb n largest) n s refl

-- one byte more is read
pub number_step : (n m i : ℕ) (s : List ℕ) → i < length s → m ≡ min (longer n (get_or s i 0)) largest → min (value_after m (drop (i + 1) s)) largest ≡ min (value_after n (drop i s)) largest
number_step n m i s h e = rw (e, add-one, drop-cons s i 0 h) (clip (longer n (get_or s i 0)) (drop (suc i) s))
