-- Lines taken from a table's bytes one after the other.
use mathlib.Core.Path.{◌≡◌, refl, sym, ap, ◌∙◌, subst}
use mathlib.Core.Bool.{Bool, true, false, ◌&&◌}
use mathlib.Core.List.{List, [], ◌∷◌, ◌++◌, map, append_assoc}
use Prim.Native.Nat.{ℕ, ◌+◌, ◌-◌, ◌<◌, ◌≤◌}
use native.Mathlib.Omega.{arith}
use borrow.Author.Tests.{ltb-true, ltb-false, lt-ltb, le-ltb}
use lib.Dec.{ltb}
use lib.ListN.{length, take, drop, replicate, length-append, length-drop, length-map, drop_of_length-le}
use Rattle.sheet_format.specs.Limits.{most_relations}
use Rattle.sheet_format.specs.Table.{Relation}
use Rattle.sheet_format.specs.Line.{Line, null, line_of, byte_lines}
use Rattle.sheet_format.specs.Cause.{refusal, none}
use Rattle.sheet_format.proofs.Lists.{append-nil, map_append}
use Rattle.sheet_format.proofs.LineLaws.{lines_none}
use Rattle.sheet_line_ends.specs.Before.{before_end}
use Rattle.sheet_line_ends.proofs.Laws.{before_le}
use Rattle.sheet_reader.proofs.ParseLaws.{line-closes, line_stays_open}
use Rattle.sheet_table.specs.Tables.{relation_on_line, line_right, lines_refusal, table_refusal, relations_of}
use Rattle.sheet_table.specs.Numbers.{table_numbers, numbers_of, TakenLine, ReadLines}

-- what is left of the bytes has a line
next-line : (s : List ℕ) (at : ℕ) → at < length s → (l : Line) × (q : List Line) × (byte_lines (drop at s) ≡ l ∷ q)
next-line s at lt = go (ltb (at + before_end (drop at s)) (length s)) refl
  where
    go : (b : Bool) → ltb (at + before_end (drop at s)) (length s) ≡ b → (l : Line) × (q : List Line) × (byte_lines (drop at s) ≡ l ∷ q)
    go true e = (_, _, line-closes s at (at + before_end (drop at s)) (omega arith) refl (ltb-true (at + before_end (drop at s)) (length s) e))
    go false e =
        let g = ltb-false (at + before_end (drop at s)) (length s) e in
        let h = before_le (drop at s) in
        let k = length-drop at s in
        ([], [], line_stays_open s at lt (omega arith))

-- ---- the lines so far

pub record Reading (s ns : List ℕ) (n at : ℕ) : Type 0 where
  pub lines : List Line
  pub count : length lines ≡ n
  pub few : n ≤ most_relations
  pub inside : at ≤ length s
  pub numbers : ns ≡ table_numbers (map relation_on_line lines)
  pub rest : byte_lines s ≡ lines ++ byte_lines (drop at s)
  pub so_far : lines_refusal [] (byte_lines s) ≡ lines_refusal (map relation_on_line lines) (byte_lines (drop at s))

pub reading-none : (s ns : List ℕ) → ns ≡ replicate 96 0 → Reading s ns 0 0
unfolding numbers_of
reading-none s ns e = record { lines = []; count = refl; few = omega arith; inside = omega arith; numbers = e; rest = refl; so_far = refl }

not_null : (p q : List Line) (l : Line) → null (p ++ l ∷ q) ≡ false
not_null [] q l = refl
not_null (k ∷ p) q l = refl

module _ (s ns : List ℕ) (n at : ℕ) (r : Reading s ns n at) where
  abbrev taken : List Relation
  taken = map relation_on_line r.lines

  taken-length : length taken ≡ n
  taken-length = length-map r.lines relation_on_line ∙ r.count

  -- ---- a line that is not right, or is one too many

  refused-here : (l : Line) (q : List Line) → byte_lines (drop at s) ≡ l ∷ q → ltb (length taken) most_relations && line_right taken l ≡ false → table_refusal s ≡ refusal 15 (n + 1)
  unfolding table_refusal lines_refusal
  refused-here l q e h =
      rw (ap null (r.rest ∙ ap (λ x. r.lines ++ x) e) ∙ not_null r.lines q l)
      (r.so_far ∙ ap (lines_refusal taken) e ∙ rw h (ap (λ k. refusal 15 (k + 1)) taken-length))

  pub too_many : n ≡ most_relations → at < length s → table_refusal s ≡ refusal 15 (n + 1)
  too_many e lt =
      let t = taken-length in
      let (l, q, is) = next-line s at lt in
      refused-here l q is (rw (le-ltb (length taken) most_relations (omega arith)))

  and_no : (a b : Bool) → b ≡ false → (a && b) ≡ false
  and_no true b e = e
  and_no false b e = refl

  no_line : line_right taken [] ≡ false
  unfolding line_right
  no_line = refl

  pub unclosed : at < length s → at + before_end (drop at s) ≡ length s → table_refusal s ≡ refusal 15 (n + 1)
  unclosed lt e = refused-here [] [] (line_stays_open s at lt e) (and_no (ltb (length taken) most_relations) (line_right taken []) no_line)

  -- ---- a closed line

  module _ (us : List ℕ) (e : ℕ) (is : e ≡ at + before_end (drop at s)) (lt : e < length s) where
    abbrev line : Line
    line = line_of (take (e - at) (drop at s))

    abbrev after : List Line
    after = byte_lines (drop (e + 1) s)

    closes : byte_lines (drop at s) ≡ line ∷ after
    closes = line-closes s at e r.inside is lt

    not_right : TakenLine s at e ns us n false → table_refusal s ≡ refusal 15 (n + 1)
    not_right w =
        refused-here line after closes (and_no (ltb (length taken) most_relations) (line_right taken line) (sym (w.right taken taken-length r.numbers)))

    goes_on : n < most_relations → line_right taken line ≡ true → lines_refusal taken (line ∷ after) ≡ lines_refusal (taken ++ (relation_on_line line ∷ [])) after
    unfolding lines_refusal
    goes_on f h = let t = taken-length in rw (lt-ltb (length taken) most_relations (omega arith), h)

    reading-more : n < most_relations → TakenLine s at e ns us n true → Reading s us (n + 1) (e + 1)
    reading-more f w =
        let m = map_append relation_on_line r.lines (line ∷ []) in
        record {
          lines = r.lines ++ (line ∷ []);
          count = length-append r.lines (line ∷ []) ∙ ap (λ k. k + 1) r.count;
          few = omega arith;
          inside = omega arith;
          numbers = w.put taken taken-length r.numbers refl ∙ ap table_numbers (sym m);
          rest = r.rest ∙ ap (λ x. r.lines ++ x) closes ∙ sym (append_assoc r.lines (line ∷ []) after);
          so_far = r.so_far ∙ ap (lines_refusal taken) closes ∙ goes_on f (sym (w.right taken taken-length r.numbers)) ∙ ap (λ x. lines_refusal x after) (sym m);
        }

  -- ---- the end of the bytes

  module _ (le : length s ≤ at) where
    none_left : byte_lines (drop at s) ≡ []
    none_left = ap byte_lines (drop_of_length-le s le) ∙ lines_none

    whole : byte_lines s ≡ r.lines
    whole = r.rest ∙ ap (λ x. r.lines ++ x) none_left ∙ append-nil r.lines

    no_lines : (p : List Line) → length p ≡ 0 → null p ≡ true
    no_lines [] e = refl
    no_lines (l ∷ p) e = absurd (omega arith)

    some-lines : (p : List Line) → (length p ≡ 0 → ⊥) → null p ≡ false
    some-lines [] h = absurd (h refl)
    some-lines (l ∷ p) h = refl

    pub empty : n ≡ 0 → table_refusal s ≡ refusal 15 0
    unfolding table_refusal
    empty e = rw (ap null whole ∙ no_lines r.lines (r.count ∙ e))

    accepted : (n ≡ 0 → ⊥) → table_refusal s ≡ none
    unfolding table_refusal lines_refusal
    accepted h = rw (ap null whole ∙ some-lines r.lines (λ e. h (sym r.count ∙ e))) (r.so_far ∙ ap (lines_refusal taken) none_left)

    read_whole : relations_of s ≡ taken
    unfolding relations_of
    read_whole = ap (map relation_on_line) whole

    pub read_done : (n ≡ 0 → ⊥) → ReadLines s ns none
    read_done h = record { answer = sym (accepted h); numbers = λ z. r.numbers ∙ ap table_numbers (sym read_whole) }

-- a line that closes at e, taken behind the lines so far; whether it is right
pub record LineTaken (s ns us : List ℕ) (n at e : ℕ) (r : Bool) : Type 0 where
  pub so_far : Reading s ns n at
  pub room : n < most_relations
  pub end : e ≡ at + before_end (drop at s)
  pub from : at ≤ e
  pub closed : e < length s
  pub line : TakenLine s at e ns us n r

pub wrong_line : {s ns us : List ℕ} {n at e : ℕ} {r : Bool} → LineTaken s ns us n at e r → r ≡ false → table_refusal s ≡ refusal 15 (n + 1)
wrong_line {s} {ns} {us} {n} {at} {e} t is = not_right s ns n at t.so_far us e t.end t.closed (subst (TakenLine s at e ns us n) is t.line)

pub right-line : {s ns us : List ℕ} {n at e : ℕ} {r : Bool} → LineTaken s ns us n at e r → r ≡ true → Reading s us (n + 1) (e + 1)
right-line {s} {ns} {us} {n} {at} {e} t is = reading-more s ns n at t.so_far us e t.end t.closed t.room (subst (TakenLine s at e ns us n) is t.line)

pub read-refused : (s us : List ℕ) (k : ℕ) → table_refusal s ≡ refusal 15 k → ReadLines s us (refusal 15 k)
read-refused s us k e = record {
  answer = sym e;
  numbers = λ z. let q : ◌≡◌ {A = ℕ} 15 0 = sym (ap (λ x. x.number) e) ∙ z in absurd (omega arith);
}
