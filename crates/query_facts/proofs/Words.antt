-- The words of a list from one place up to another, and loops over them. Assumes nothing.
use mathlib.Core.Path.{◌≡◌, refl, sym, ap}
use mathlib.Core.Bool.{Bool, true, false, not, ◌&&◌, ◌||◌}
use mathlib.Core.List.{List, [], ◌∷◌, map}
use Prim.Native.Nat.{ℕ, zero, suc, ◌<◌, ◌+◌}
use native.Mathlib.Nat.{zero-add, suc-add}
use native.Mathlib.Numerals.{add-one}
use native.Mathlib.Omega.{arith}
use lib.Dec.{ltb, leb}
use lib.IntN.{ℤ, pos, negsuc}
use lib.ListN.{length, get_or, take, drop, set}
use lib.Seq.{slice, take-nil, take-suc, take-suc-set}
use borrow.Author.Tests.{eqb-true, leb-true, leb-false, lt-ltb, le-ltb, le-leb, ne_eqb}
use Rattle.list_laws.proofs.Lists.{map_append}
use Rattle.sheet_format.proofs.Lists.{no_way}
use Rattle.sheet_format.specs.Line.{all, is_zero, natural}
use Rattle.query_meaning.specs.Facts.{is_value, value_end}
use Rattle.query_facts.specs.Parts.{in_range}

-- ---- tests

pub not-either : (s t : Bool) → not s && not t ≡ not (s || t)
not-either true t = refl
not-either false t = refl

-- ---- a signed word

pub zero_word : (z : ℤ) → is_zero z ≡ true → z ≡ pos 0
zero_word (pos n) e = ap pos (eqb-true n 0 e)
zero_word (negsuc n) e = no_way e

-- a value is in the range of the values, and an unused word in that of 0 alone
pub value-range : (z : ℤ) → in_range (pos value_end) z ≡ is_value z
value-range (pos n) = rw (le-ltb n 0 (omega arith)) (go (leb value_end n) refl)
  where
    go : (b : Bool) → leb value_end n ≡ b → not b ≡ ltb n value_end
    go true e = sym (le-ltb n value_end (leb-true value_end n e))
    go false e = sym (lt-ltb n value_end (leb-false value_end n e))
value-range (negsuc n) = refl

pub zero-range : (z : ℤ) → in_range (pos 1) z ≡ is_zero z
zero-range (pos zero) = refl
zero-range (pos (suc n)) = rw (le-ltb (suc n) 0 (omega arith), le-leb 1 (suc n) (omega arith), ne_eqb (suc n) 0 (λ e. omega arith))
zero-range (negsuc n) = refl

-- ---- parts of a list

pub part_slice : {A : Type 0} (a n : ℕ) (l : List A) → take n (drop a l) ≡ slice a (a + n) l
part_slice zero n l = rw (zero-add n)
part_slice (suc a) n [] = rw (suc-add a n, take-nil n)
part_slice (suc a) n (x ∷ l) = rw (suc-add a n) (part_slice a n l)

-- ---- every word passes a test

pub all_same : (p q : ℤ → Bool) → ((z : ℤ) → p z ≡ q z) → (l : List ℤ) → all p l ≡ all q l
all_same p q h [] = refl
all_same p q h (z ∷ l) = rw (h z, all_same p q h l)

-- ---- one number more

pub number_more : (ws : List ℤ) (ns : List ℕ) (i : ℕ) → i < length ws → i < length ns → take i ns ≡ map natural (take i ws)
    → take (i + 1) (set ns i (natural (get_or ws i (pos 0)))) ≡ map natural (take (i + 1) ws)
number_more ws ns i h k e =
    rw (add-one i, take-suc-set ns i (natural (get_or ws i (pos 0))) k, take-suc ws i (pos 0) h, map_append natural (take i ws) (get_or ws i (pos 0) ∷ []), e)
