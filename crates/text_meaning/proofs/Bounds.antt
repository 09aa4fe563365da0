-- How large the numbers of marks and the kinds of lines are.
use mathlib.Core.Path.{◌≡◌, refl}
use mathlib.Core.Bool.{Bool, true, false, cond, ◌&&◌, ◌||◌}
use mathlib.Core.List.{List, [], ◌∷◌}
use Prim.Native.Nat.{ℕ, suc, ◌+◌, ◌≤◌, ◌<◌}
use native.Mathlib.Omega.{arith}
use lib.Dec.{eqb, ltb}
use lib.ListN.{length}
use borrow.Author.Tests.{ltb-true}
use Rattle.sheet_format.specs.Limits.{field_end}
use Rattle.text_writer.specs.Texts.{relation_names}
use Rattle.text_begins.specs.Begins.{letter_of}
use Rattle.text_meaning.specs.Names.{are_same_bytes, number_from, among, beyond, relation_named, token_mark}
use Rattle.text_meaning.specs.Tokens.{token_kind}
use Rattle.text_meaning.specs.Places.{next_block, start_at, comment_at, open_at, term_expected, is_counted, more_at, closed_by, close_at, first_at, row_end_at, next_at, colon_at, relation_at, atom_end_at, row_expected, any_rows_at, step_from, step}
use Rattle.text_meaning.specs.Control.{Control}
use Rattle.text_meaning.specs.Control.{Mark}

-- either way of a test
pub either : {A : Type 0} (P : A → Type 0) (t : Bool) {x y : A} → P x → P y → P (cond t x y)
either P true p q = p
either P false p q = q

-- ---- marks

abbrev Few : ℕ → Type 0
Few n = n < field_end

among-few : (w : List ℕ) (r : ℕ) (ns : List (List ℕ)) → among w r ns ≤ r + length ns
unfolding among
among-few w r [] = omega arith
among-few w r (n ∷ ns) = let a = among-few w (suc r) ns in either (λ k. k ≤ r + suc (length ns)) (are_same_bytes w n) (omega arith) (omega arith)

beyond-few : (w : List ℕ) → Few (beyond w)
beyond-few [] = omega arith
beyond-few (a ∷ s) = by (eqb a 82) (ltb 10 n) (ltb n field_end) refl
  where
    n : ℕ
    n = number_from 0 s

    by : (t u v : Bool) → ltb (number_from 0 s) field_end ≡ v → Few (cond (t && (u && v)) (number_from 0 s) 0)
    by true true true e = ltb-true (number_from 0 s) field_end e
    by true true false e = omega arith
    by true false v e = omega arith
    by false u v e = omega arith

relation-few : (w : List ℕ) → Few (relation_named w)
unfolding relation_named
relation-few w = let a = among-few w 1 relation_names in either Few (eqb (among w 1 relation_names) 0) (beyond-few w) (omega arith)

-- the number of a mark fits a field
pub value-few : (w : List ℕ) → Few (token_mark w).value
unfolding token_mark
value-few [] = omega arith
value-few (b ∷ w) = either Few (eqb (token_kind b) 48) (omega arith) (either Few (eqb (token_kind b) 65) (relation-few (b ∷ w)) (omega arith))

-- a variable has bytes
pub variable-some : (w : List ℕ) → (token_mark w).kind ≡ 97 → 0 < length w
unfolding token_mark
variable-some [] e = absurd (omega arith)
variable-some (b ∷ w) e = omega arith

-- ---- kinds of lines

abbrev Small : Control → Type 0
Small c = c.kind ≤ 5

module _ (c : Control) (h : Small c) (m : Mark) where
  next-few : (b l : ℕ) → next_block b l ≤ 5
  unfolding next_block
  next-few b l =
      either (λ n. n ≤ 5) (eqb b 0) (omega arith) (either (λ n. n ≤ 5) (eqb b 1) (omega arith) (either (λ n. n ≤ 5) (eqb b 2) (either (λ n. n ≤ 5) (eqb l (letter_of 2)) (omega arith) (omega arith)) (omega arith)))

  start_small : Small (start_at c m)
  unfolding start_at
  start_small = either Small (eqb m.kind 10) h (either Small (eqb m.kind 35) h (either Small (eqb m.letter (letter_of (next_block c.block m.letter))) (next-few c.block m.letter) h))

  term-small : (what : ℕ) → Small (term_expected c m what)
  unfolding term_expected
  term-small what = either Small (eqb m.kind 48 || eqb m.kind 97) h h

  more-small : Small (more_at c)
  unfolding more_at
  more-small = either Small (ltb 0 c.left) h (either Small (is_counted c) h h)

  close_small : Small (close_at c)
  unfolding close_at closed_by
  close_small =
      let k : Small (closed_by c) = either Small (eqb c.kind 4) h (either Small (eqb c.kind 5) h h) in
      either Small (is_counted c) (either Small (eqb c.left 0) k h) k

  row-end-small : (what : ℕ) → Small (row_end_at c m what)
  unfolding row_end_at
  row-end-small what = either Small (eqb m.kind 59) h (either Small (eqb m.kind 10) h h)

  row_small : (what : ℕ) → Small (row_expected c m what)
  unfolding row_expected
  row_small what = either Small (eqb m.kind 40) (omega arith) (either Small (eqb m.kind 48) (omega arith) h)

  from-small : (p : ℕ) → Small (step_from p c m)
  unfolding step_from comment_at open_at first_at next_at colon_at relation_at atom_end_at any_rows_at
  from-small p =
      either Small (eqb p 0) start_small
      (either Small (eqb p 1) (either Small (eqb m.kind 10) h h)
      (either Small (eqb p 2) (either Small (eqb m.kind 40) (either Small (eqb c.kind 4) h h) h)
      (either Small (eqb p 3) (either Small (eqb m.kind 41) close_small (term-small 5))
      (either Small (eqb p 4) (term-small 6)
      (either Small (eqb p 5) (either Small (eqb m.kind 44) more-small (either Small c.bare (row-end-small 16) (either Small (eqb m.kind 41) close_small h)))
      (either Small (eqb p 6) (either Small (eqb m.kind 58) h h)
      (either Small (eqb p 7) (either Small (eqb m.kind 65) (either Small (eqb m.value 0) h (omega arith)) h)
      (either Small (eqb p 8) (either Small (eqb m.kind 44) h (either Small (eqb c.block 3) (either Small (eqb m.kind 61) h h) (either Small (eqb m.kind 10) h h)))
      (either Small (eqb p 9) (either Small (eqb m.kind 10) h (row_small 14))
      (either Small (eqb p 10) (row_small 15)
      (row-end-small 17)))))))))))

-- a line's kind is one of five
pub kind-small : (c : Control) (m : Mark) → c.kind ≤ 5 → (step c m).kind ≤ 5
unfolding step
kind-small c m h = from-small c h m c.place
