-- Marks of places: their count, the one after the last, and the first.
use mathlib.Core.Path.{◌≡◌, refl, sym, ap, ◌∙◌}
use mathlib.Core.List.{List, [], ◌∷◌, ◌++◌}
use Prim.Native.Nat.{ℕ, zero, suc, ◌+◌, ◌-◌, ◌≤◌, ◌<◌}
use native.Mathlib.Numerals.{add-one}
use native.Mathlib.Omega.{arith}
use lib.IntN.{ℤ, pos}
use lib.ListN.{length, get_or, take, drop, set, drop_of_length-le}
use lib.Seq.{drop-cons, take-suc-set, take_all}
use mir.Syntax.{w32}
use mir.Val.{SFits, to_z, of_z}
use mir.ValLaws.{to_z-of_z, to_z_pos}
use borrow.Author.Tests.{lt-ltb, le-ltb, ltb-true}
use mathlib.Core.Bool.{Bool, true, false, cond}
use lib.Dec.{ltb}
use Rattle.test_lent.specs.Marks.{place_mark, marks}

-- the mark of a place that has one of its own
pub mark-own : (i : ℕ) → i < 100000 → to_z w32 (70000000 + i) ≡ place_mark i
unfolding place_mark
mark-own i h = rw (to_z_pos w32 (70000000 + i) (omega arith), lt-ltb i 100000 h)

-- the mark of any other
pub mark-last : (i : ℕ) → 100000 ≤ i → pos 70000000 ≡ place_mark i
unfolding place_mark
mark-last i h = rw (le-ltb i 100000 h)

mark-fits-by : (i : ℕ) (t : Bool) → (t ≡ true → i < 100000) → SFits w32 (pos (cond t (70000000 + i) 70000000))
mark-fits-by i true h = let k = h refl in record { sfits = omega arith }
mark-fits-by i false h = record { sfits = omega arith }

-- a mark is a word
pub mark-fits : (i : ℕ) → SFits w32 (place_mark i)
unfolding place_mark
mark-fits i = mark-fits-by i (ltb i 100000) (ltb-true i 100000)

-- read back from its bits it is the same mark
pub mark-back : (i : ℕ) → to_z w32 (of_z w32 (place_mark i)) ≡ place_mark i
mark-back i = to_z-of_z w32 (place_mark i) (mark-fits i)

-- a word with its bits is the mark
pub mark_of_bits : {z : ℤ} (i : ℕ) → SFits w32 z → of_z w32 z ≡ of_z w32 (place_mark i) → z ≡ place_mark i
mark_of_bits i f e = sym (to_z-of_z w32 _ f) ∙ ap (to_z w32) e ∙ mark-back i

marks_snoc : (i n : ℕ) → marks i (suc n) ≡ marks i n ++ (place_mark (i + n) ∷ [])
marks_snoc i zero = let e : i + 0 ≡ i = omega arith in rw e
marks_snoc i (suc n) = let e : i + suc n ≡ suc i + n = omega arith in rw (e, ← marks_snoc (suc i) n)

-- one mark more is put
pub put_step : (l : List ℤ) (i : ℕ) (w : ℤ) → i < length l → w ≡ place_mark i → take i l ≡ marks 0 i → take (i + 1) (set l i w) ≡ marks 0 (i + 1)
put_step l i w h e t = rw (add-one, take-suc-set l i w h, e, t) (let z : 0 + i ≡ i = omega arith in sym (rw z at (marks_snoc 0 i)))

-- every mark is put
pub put_all : (l : List ℤ) (i n : ℕ) → length l ≡ n → i ≡ n → take i l ≡ marks 0 i → l ≡ marks 0 n
put_all l i n e f t = sym (take_all i l (omega arith)) ∙ t ∙ ap (marks 0) f

-- the words from a place on are the marks of their places
pub record MarksFrom (l : List ℤ) (i : ℕ) : Type 0 where
  pub marked : drop i l ≡ marks i (length l - i)

marks_cons : (i n : ℕ) → i < n → marks i (n - i) ≡ place_mark i ∷ marks (suc i) (n - suc i)
marks_cons i n h = let e : n - i ≡ suc (n - suc i) = omega arith in rw e

-- the first of the words is marked
pub first-marked : (l : List ℤ) (i : ℕ) (d : ℤ) → i < length l → MarksFrom l i → get_or l i d ≡ place_mark i
first-marked l i d h m =
    let a = drop-cons l i d h in
    let b = marks_cons i (length l) h in
    let e = m.marked in
    cc

-- and so are the others
pub rest-marked : (l : List ℤ) (i : ℕ) (d : ℤ) → i < length l → MarksFrom l i → MarksFrom l (i + 1)
rest-marked l i d h m =
    let a = drop-cons l i d h in
    let b = marks_cons i (length l) h in
    let e = m.marked in
    record { marked = rw add-one (cc) }

pub more-marked : (l : List ℤ) (i : ℕ) (d : ℤ) → i < length l → get_or l i d ≡ place_mark i → MarksFrom l (i + 1) → MarksFrom l i
more-marked l i d h e m =
    let f = rw add-one at m.marked in
    record { marked = drop-cons l i d h ∙ (rw (e, f) (sym (marks_cons i (length l) h))) }

-- past the end there is no word
pub none-marked : (l : List ℤ) (i : ℕ) → length l ≤ i → MarksFrom l i
none-marked l i h = let e : length l - i ≡ 0 = omega arith in record { marked = rw (drop_of_length-le l h, e) }
