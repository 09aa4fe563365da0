-- What reading a text and writing its number form give, as what this crate's contract says; and that a sheet that is made is accepted.
use mathlib.Core.Path.{◌≡◌, refl, sym, ap, ◌∙◌, subst}
use mathlib.Core.Bool.{Bool, true, false, cond}
use mathlib.Core.List.{List, [], ◌++◌, reverse}
use Prim.Native.Nat.{ℕ, zero, suc, ◌+◌, ◌-◌, ◌*◌, ◌/◌, ◌%◌, ◌≤◌, ◌<◌, min}
use native.Mathlib.Omega.{arith}
use lib.Dec.{eqb, ltb}
use lib.IntN.{ℤ, pos}
use lib.ListN.{length, get_or, take, drop, replicate, length-append, length-drop, length-replicate, get_or-eq_default}
use lib.Seq.{take_at, drop_at}
use borrow.Author.Tests.{eq-eqb, ne_eqb, lt-ltb, le-ltb, ltb-false}
use Rattle.text_begins.specs.Begins.{most_text}
use Rattle.list_laws.proofs.Lists.{padded_get}
use Rattle.sheet_format.specs.Limits.{most_words, most_bytes, line_word_count, most_lines}
use Rattle.sheet_format.specs.Line.{bytes_of, word_lines}
use Rattle.sheet_format.specs.Table.{Table, ten, table_in}
use Rattle.sheet_format.specs.Cause.{refusal, refusal_of}
use Rattle.sheet_format.specs.Sheet.{over, lent_by, read_ending, words_refusal, write_ending, write_bytes}
use Rattle.sheet_format.specs.Answers.{Ending}
use Rattle.sheet_format.specs.Answers.Ending.{Done, Refused}
use Rattle.sheet_format.proofs.LineLaws.{sevens-good, sevens-length, bytes-size}
use Rattle.sheet_format.proofs.RoundTrip.{ending-done, write_read}
use Rattle.sheet_table.specs.Tables.{table_refusal, table_of}
use Rattle.sheet_table.specs.Loads.{Loads}
use Rattle.sheet_table.specs.Loads.{Loaded}
use Rattle.sheet_own_table.specs.Own.{own_bytes}
use Rattle.sheet.proofs.ByTable.{refused, taken, own}
use Rattle.sheet.proofs.Calls.{clean-sheet}
use Rattle.text_meaning.specs.Reading.{Reading, reading_of, form_of, text_line}
use Rattle.text_meaning.specs.Control.{Control}
use Rattle.text_reader.specs.Held.{ReadUp, Stored}
use Rattle.text_reader.specs.declared.Counts.{Counts}
use Rattle.text_reader.proofs.Lines.{form-length}
use Rattle.text_to_sheet.specs.Texts.{made_by_writing, made_from, made_of, made_of_by, sheet_bytes, lent_for, MadeAs, MadeByTable, begun_line, Sheets, Written}
use Rattle.text_to_sheet.specs.Outcome.{Made}
use Rattle.text_to_sheet.specs.Outcome.{Made as made}

-- ---- the line of the text

pub line-none : (b : List ℕ) (n : ℕ) → n ≡ 0 → 0 ≡ begun_line b n
line-none b n e = rw e

pub line-far : (b : List ℕ) (n : ℕ) → length b < n → 0 ≡ begun_line b n
line-far b zero h = refl
line-far b (suc n) h = sym (get_or-eq_default b 0 (omega arith))

pub line_at : (b : List ℕ) (n : ℕ) → (n ≡ 0 → ⊥) → get_or b (n - 1) 0 ≡ begun_line b n
line_at b zero h = absurd (h refl)
line_at b (suc n) h = let e : suc n - 1 ≡ n = omega arith in rw e

-- ---- what comes of a text

pub too_long : {table : Table} {t out : List ℕ} → most_text < length t → MadeAs table t out out (made.Expected 1 18 0)
unfolding made_of
too_long {t} h = record { result = rw (lt-ltb most_text (length t) h); lent = refl }

module _ (table : Table) (t out : List ℕ) (few : length t ≤ most_text) {w : List ℤ} {b : List ℕ} {d : Control} {n : Counts} (k : ReadUp t w b d n) where
  read_made : (m : Made) → m ≡ made_from table (reading_of t) (length out) → m ≡ made_of table t (length out)
  unfolding made_of
  read_made m e = rw (le-ltb most_text (length t) few) e

  pub expected-made : (d.expected ≡ 0 → ⊥) → MadeAs table t out out (made.Expected n.line d.expected d.relation)
  expected-made f =
      let x : eqb (reading_of t).control.expected 0 ≡ eqb d.expected 0 = ap (λ (c : Control). eqb c.expected 0) k.control in
      record {
        result = read_made (made.Expected n.line d.expected d.relation) (rw (x, ne_eqb d.expected 0 f, k.line, k.control));
        lent = refl;
      }

  module _ (f : d.expected ≡ 0) where
    fitted : (m : Made) → m ≡ made_by_writing (reading_of t) (write_ending table (form_of (reading_of t)) (length out)) → m ≡ made_of table t (length out)
    fitted m e =
        let x : eqb (reading_of t).control.expected 0 ≡ eqb d.expected 0 = ap (λ (c : Control). eqb c.expected 0) k.control in
        read_made m (rw (x, eq-eqb d.expected 0 f) e)

    pub many-made : most_lines < n.lines → MadeAs table t out out (made.Refused 1 0 0)
    unfolding write_ending words_refusal form_of
    many-made h =
        let ls = (reading_of t).lines in
        let c = k.kept.count in
        let l = form-length ls k.kept.fit in
        record {
          result = fitted (made.Refused 1 0 0) (rw (lt-ltb most_words (length (form_of (reading_of t))) (omega arith)));
          lent = refl;
        }

    module _ (h : n.lines ≤ most_lines) where
      stored : Stored w b (reading_of t).lines (reading_of t).starts
      stored = let c = k.kept.count in k.kept.stored (omega arith)

      words_are : take (n.lines * 7 - 0) w ≡ form_of (reading_of t)
      unfolding form_of
      words_are =
          let ls = (reading_of t).lines in
          let c = k.kept.count in
          let s = stored in
          let l = form-length ls k.kept.fit in
          ap (take (n.lines * 7 - 0)) s.form ∙ take_at (form_of (reading_of t)) (replicate (most_words - length ls * 7) (pos 0)) (n.lines * 7 - 0) (omega arith)

      line-is : (l : ℕ) → begun_line b l ≡ text_line (reading_of t) l
      line-is zero = refl
      line-is (suc i) = let s = stored in ap (λ x. get_or x i 0) s.places ∙ padded_get 0 (reverse (reading_of t).starts) (most_lines - length (reading_of t).lines) i

      module _ (new : List ℕ) (x : Ending) (e : x ≡ write_ending table (take (n.lines * 7 - 0) w) (length out)) (y : new ≡ write_bytes table (take (n.lines * 7 - 0) w) out) where
        ends : x ≡ write_ending table (form_of (reading_of t)) (length out)
        ends = e ∙ ap (λ ws. write_ending table ws (length out)) words_are

        bytes : new ≡ lent_by x (sheet_bytes t) out
        unfolding write_bytes sheet_bytes
        bytes = y ∙ ap (λ ws. lent_by (write_ending table ws (length out)) (bytes_of (word_lines ws)) out) words_are ∙ ap (λ z. lent_by z (sheet_bytes t) out) (sym ends)

        pub sheet-made : (j : ℕ) → x ≡ Done j → MadeAs table t out new (made.Sheet j)
        sheet-made j q = record {
          result = fitted (made.Sheet j) (ap (made_by_writing (reading_of t)) (sym q ∙ ends));
          lent = bytes ∙ ap (λ z. lent_by z (sheet_bytes t) out) q;
        }

        pub refused-made : (c l v : ℕ) → x ≡ Refused c l → v ≡ begun_line b l → MadeAs table t out new (made.Refused c l v)
        refused-made c l v q i = record {
          result = fitted (made.Refused c l v) (ap (λ z. made.Refused c l z) (i ∙ line-is l) ∙ ap (made_by_writing (reading_of t)) (sym q ∙ ends));
          lent = bytes ∙ ap (λ z. lent_by z (sheet_bytes t) out) q;
        }

-- ---- a sheet that is made

done_of : (table : Table) (t : List ℕ) (room n : ℕ) → made.Sheet n ≡ made_of table t room → write_ending table (form_of (reading_of t)) room ≡ Done n
unfolding made_of
done_of table t room n e = by (ltb most_text (length t)) (eqb (reading_of t).control.expected 0) (write_ending table (form_of (reading_of t)) room) e
  where
    by : (a b : Bool) (x : Ending) → made.Sheet n ≡ cond a (made.Expected 1 18 0) (cond b (made_by_writing (reading_of t) x) (made.Expected (reading_of t).line (reading_of t).control.expected (reading_of t).control.relation)) → x ≡ Done n
    by true b x e = let z : ◌≡◌ {A = ℕ} 0 1 = cc in absurd (omega arith)
    by false true (Done m) e = cc
    by false true (Refused c l) e = let z : ◌≡◌ {A = ℕ} 0 1 = cc in absurd (omega arith)
    by false false x e = let z : ◌≡◌ {A = ℕ} 0 1 = cc in absurd (omega arith)

few_words : (table : Table) (ws : List ℤ) → (words_refusal table ws).number ≡ 0 → length ws ≤ most_words
unfolding words_refusal
few_words table ws e = by (ltb most_words (length ws)) refl e
  where
    by : (a : Bool) → ltb most_words (length ws) ≡ a → (cond a (refusal 1 0) (cond (eqb (length ws % line_word_count) 0) (refusal_of table (word_lines ws)) (refusal 2 0))).number ≡ 0 → length ws ≤ most_words
    by true i f = absurd (omega arith)
    by false i f = ltb-false most_words (length ws) i

module _ {table : Table} {t old new : List ℕ} {n : ℕ} (m : MadeAs table t old new (made.Sheet n)) where
  -- its bytes are the definition's, and they fit
  sized : (n ≡ length (sheet_bytes t)) × (n ≤ length old)
  unfolding write_ending sheet_bytes
  sized =
      let ws = form_of (reading_of t) in
      let bs = bytes_of (word_lines ws) in
      let a = ending-done (words_refusal table ws) (length old) most_bytes (length bs) n (done_of table t (length old) n m.result) in
      let w = few_words table ws a.clean in
      let f = bytes-size (word_lines ws) (sevens-good (length ws / line_word_count) ws) in
      let l = sevens-length (length ws / line_word_count) ws in
      let k = a.count in
      let r = a.enough in
      (omega arith, omega arith)

  pub made_bytes : take n new ≡ sheet_bytes t
  made_bytes = ap (take n) m.lent ∙ take_at (sheet_bytes t) (drop (length (sheet_bytes t)) old) n (sym sized.0)

  -- it is accepted, and the bytes after it are as they were
  pub made-sheet : Sheets table old new n
  unfolding sheet_bytes write_bytes
  made-sheet =
      let ws = form_of (reading_of t) in
      let bs = sheet_bytes t in
      let d = done_of table t (length old) n m.result in
      let z = replicate most_words (pos 0) in
      let r = write_read table ws old n d z (omega (arith, length-replicate most_words (pos 0))) in
      let e = sized.0 in
      let f = sized.1 in
      let i : new ≡ write_bytes table ws old = m.lent ∙ sym (ap (λ r. lent_by r bs old) d) in
      let l : length new ≡ length old = ap length m.lent ∙ length-append bs (drop (length bs) old) ∙ (let k = length-drop (length bs) old in omega arith) in
      record {
        accepted = rw i (clean-sheet table (take n (write_bytes table ws old)) _ (subst (λ k. read_ending table (take n (write_bytes table ws old)) k ≡ Done (length ws / line_word_count)) (length-replicate most_words (pos 0)) r.0));
        fits = omega arith;
        same = l;
        rest = ap (drop n) m.lent ∙ drop_at bs (drop (length bs) old) n (sym e) ∙ ap (λ k. drop k old) (sym e);
      }

pub written : {table : Table} {t old new : List ℕ} {r : Made} → MadeAs table t old new r → Written table old new r
written {r = made.Sheet n} m = made-sheet m
written {r = made.Expected l w k} m = m.lent
written {r = made.Refused c l v} m = m.lent

-- ---- by a table that was read

module _ (tb : List ℕ) (l : Loaded) (h : Loads tb l) (t out : List ℕ) where
  pub table-refused : (l.number ≡ 0 → ⊥) → MadeByTable tb t out out (made.Refused l.number l.line 0)
  unfolding made_of_by
  table-refused n = record {
    result = ap (λ k. made.Refused k l.line 0) h.number ∙ ap (λ k. made.Refused (table_refusal tb).number k 0) h.line ∙ refused tb l h n _ _;
    lent = refl;
  }

  pub table_taken : l.number ≡ 0 → (new : List ℕ) (r : Made) → MadeAs (table_in l.numbers) t out new r → MadeByTable tb t out new r
  unfolding made_of_by
  table_taken z new r m = record {
    result = taken tb l h z r (made.Refused (table_refusal tb).number (table_refusal tb).line 0) (λ x. made_of x t (length out)) m.result;
    lent = m.lent;
  }

-- where the table is refused nothing is written
pub written-by : {tb t old new : List ℕ} {r : Made} → MadeByTable tb t old new r → Written (table_of tb) old new r
unfolding made_of_by
written-by {tb} {t} {old} {new} {r} m = by (eqb (table_refusal tb).number 0) m.result
  where
    by : (b : Bool) → r ≡ cond b (made_of (table_of tb) t (length old)) (made.Refused (table_refusal tb).number (table_refusal tb).line 0) → Written (table_of tb) old new r
    by true e = written (record { result = e; lent = m.lent })
    by false e = subst (Written (table_of tb) old new) (sym e) (m.lent ∙ ap (λ x. lent_for x (sheet_bytes t) old) e)

-- by the bytes of the own table: what comes without one
pub own-made : (t : List ℕ) (room : ℕ) → made_of_by own_bytes t room ≡ made_of ten t room
unfolding made_of_by
own-made t room = own (made.Refused (table_refusal own_bytes).number (table_refusal own_bytes).line 0) (λ x. made_of x t room)
