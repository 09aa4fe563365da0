-- What the calls that judge and put words give, as what this crate's contracts say.
use mathlib.Core.Path.{◌≡◌, refl, sym, ap, ◌∙◌}
use mathlib.Core.Bool.{Bool, true, false, cond}
use mathlib.Core.List.{List, [], ◌∷◌, ◌++◌, map}
use mathlib.Core.Logic.{◌⊎◌, inl, inr, ⊎_elim}
use Prim.Native.Nat.{ℕ, ◌-◌, ◌/◌, min, ◌≤◌, ◌<◌}
use native.Mathlib.Omega.{arith}
use lib.Dec.{eqb}
use lib.IntN.{ℤ, pos}
use lib.ListN.{length, take, get_or, length-append, length-map, length-take}
use mir.Syntax.{w32}
use mir.Val.{to_z}
use mir.ValLaws.{to_z_pos}
use borrow.Author.Tests.{eq-eqb, ne_eqb, eqb-true, eqb-false, lt-ltb, le-ltb}
use Rattle.sheet_format.specs.Limits.{field_byte_count, field_end}
use Rattle.sheet_format.specs.Table.{Table, table_in}
use Rattle.sheet_format.specs.Line.{Line, null, line_of, closed, open_from, byte_lines, line_at}
use Rattle.sheet_format.specs.Cause.{Kind, question, saved, view, atom, row, other, kind, rest, in_place, start, scan, refusal_of}
use Rattle.sheet_format.specs.Sheet.{sheet_refusal}
use Rattle.sheet_format.proofs.Lists.{no_way}
use Rattle.sheet_format.proofs.LineLaws.{line-shown, bytes-length}
use Rattle.sheet_format.proofs.ScanLaws.{accepted-scan}
use Rattle.sheet_format.proofs.RoundTrip.{bytes-clean}
use Rattle.sheet_format.proofs.TableLaws.{Narrow}
use Rattle.sheet_terms.proofs.Laws.{columns-most}
use Rattle.query_meaning.specs.Blocks.{as_term, view_of, blocks, nth}
use Rattle.query_meaning.specs.Evaluate.{answer_word_count}
use Rattle.query_blocks.proofs.Accepted.{Clean, scan-first}
use Rattle.case_verdicts.specs.Sheets.{is_question, question_in}
use Rattle.judge_result.specs.Judged.{least_room, Judged, SheetSent}
use Rattle.judge_result.specs.Answers.{Judgement}
use Rattle.text_buffer.specs.Puts.{Put}
use Rattle.text_buffer.specs.Words.{bytes}
use Rattle.text_buffer.proofs.Laws.{said}
use Rattle.text_writer.specs.Rooms.{text_room}
use Rattle.text_writer.specs.Texts.{refusal_bytes}
use Rattle.text_writer.proofs.Parts.{take-least}
use Rattle.text_writer.proofs.Bounds.{all-put, terms-few, facts-few, refusal-few}
use Rattle.text_judgement.specs.Verdict.{value_word, case_bytes, verdict_bytes, asked, lent, Verdict}

-- ---- a missing answer

pub value-below : {n : ℕ} → n < field_end → to_z w32 n ≡ value_word n
value-below {n} h = rw (to_z_pos w32 n (omega arith), lt-ltb n field_end h)

pub value-beyond : {n : ℕ} → field_end ≤ n → pos 0 ≡ value_word n
value-beyond {n} h = rw (le-ltb n field_end h)

four-values : (m : List ℕ) → length m ≡ answer_word_count → value_word (get_or m 0 0) ∷ value_word (get_or m 1 0) ∷ value_word (get_or m 2 0) ∷ value_word (get_or m 3 0) ∷ [] ≡ map value_word m
four-values [] e = absurd (omega arith)
four-values (a ∷ []) e = absurd (omega arith)
four-values (a ∷ b ∷ []) e = absurd (omega arith)
four-values (a ∷ b ∷ c ∷ []) e = absurd (omega arith)
four-values (a ∷ b ∷ c ∷ d ∷ []) e = refl
four-values (a ∷ b ∷ c ∷ d ∷ f ∷ m) e = absurd (omega arith)

-- the first of four words that are the values
pub some-values : (columns some : ℕ) (m : List ℕ) {a b c d : ℤ} → length m ≡ answer_word_count → some ≡ min columns answer_word_count
    → a ≡ value_word (get_or m 0 0) → b ≡ value_word (get_or m 1 0) → c ≡ value_word (get_or m 2 0) → d ≡ value_word (get_or m 3 0)
    → take (some - 0) (a ∷ b ∷ c ∷ d ∷ []) ≡ take columns (map value_word m)
some-values columns some m l e f g h i =
    let k : some - 0 ≡ min columns (length (map value_word m)) = rw (length-map m value_word, l) (omega arith) in
    rw (f, g, h, i, four-values m l, k) (take-least columns (map value_word m))

-- ---- the columns of the question

is-first : (k : Kind) → in_place start k ≡ true → is_question k ≡ true
is-first question e = refl
is-first saved e = no_way e
is-first view e = no_way e
is-first atom e = no_way e
is-first row e = no_way e
is-first other e = no_way e

rest-length : (l : Line) → null l ≡ false → length (rest l) ≡ length l - 1
rest-length [] e = no_way (sym e)
rest-length (z ∷ l) e = omega arith

module _ (table : Table) (l : Line) (ls : List Line) (ok : (refusal_of table (l ∷ ls)).number ≡ 0) where
  first-clean : Clean table start l
  first-clean = (scan-first table l ls start [] 1 (eqb-true _ 0 (accepted-scan table (l ∷ ls) ok))).0

  first-asked : length (question_in (l ∷ ls)).head ≡ length l - 1
  unfolding blocks
  first-asked =
      ap (λ b. length (nth (cond b (view_of l ls ∷ blocks is_question ls) (blocks is_question ls)) 0).block.head) (is-first (kind l) first-clean.placed)
      ∙ length-map (rest l) as_term
      ∙ rest-length l first-clean.formed

no_lines : (table : Table) {P : Type 0} → (refusal_of table []).number ≡ 0 → P
unfolding scan
no_lines table ok = no_way (accepted-scan table [] ok)

-- the first line of an accepted sheet is the question's head
pub asked_is : (table : Table) (s : List ℕ) → (sheet_refusal table s).number ≡ 0 → length (line_at s 1) / field_byte_count - 1 ≡ asked s
unfolding byte_lines
asked_is table s clean = go (closed s) (null (open_from [] s)) (bytes-clean table s clean)
  where
    go : (cs : List (List ℕ)) (t : Bool) → (refusal_of table (map line_of cs ++ cond t [] ([] ∷ []))).number ≡ 0
        → length (get_or cs 0 []) / field_byte_count - 1 ≡ length (question_in (map line_of cs ++ cond t [] ([] ∷ []))).head
    go [] true ok = no_lines table ok
    go [] false ok = no_way (sym (first-clean table [] [] ok).formed)
    go (x ∷ cs) t ok =
        let ls = map line_of cs ++ cond t [] ([] ∷ []) in
        let e = first-asked table (line_of x) ls ok in
        let k = sym (ap length (line-shown x (first-clean table (line_of x) ls ok).formed)) ∙ bytes-length (line_of x) in
        omega arith

-- ---- what is said

case-few : (table : Table) → Narrow table → (columns : ℕ) (missing : List ℕ) (count : ℕ) (facts : List ℤ) → length missing ≡ answer_word_count → length facts ≡ least_room → length (case_bytes table columns missing count facts) ≤ text_room
unfolding case_bytes
case-few table narrow columns missing count facts m l =
    let vs = map value_word missing in
    let a = terms-few (take columns vs) in
    let b = length-take columns vs in
    let d = length-map missing value_word in
    let e = facts-few table narrow count facts in
    simp length-append (omega arith)

-- the words by the verdict
module _ (table : Table) (columns : ℕ) (j : Judgement) (facts : List ℤ) where
  pub covered : j.verdict ≡ 0 → bytes "covered\n" ≡ verdict_bytes table columns j facts
  unfolding verdict_bytes
  covered e = rw (eq-eqb j.verdict 0 e)

  pub no_log : j.verdict ≡ 2 → bytes "no log gives these rows\n" ≡ verdict_bytes table columns j facts
  unfolding verdict_bytes
  no_log e = rw e

  pub refused : j.verdict ≡ 9 → refusal_bytes j.number j.line 0 ≡ verdict_bytes table columns j facts
  unfolding verdict_bytes
  refused e = rw e

  pub case : (j.verdict ≡ 0 → ⊥) → (j.verdict ≡ 2 → ⊥) → (j.verdict ≡ 9 → ⊥) → case_bytes table columns j.missing j.count facts ≡ verdict_bytes table columns j facts
  unfolding verdict_bytes
  case a b c = rw (ne_eqb j.verdict 0 a, ne_eqb j.verdict 2 b, ne_eqb j.verdict 9 c)

-- of a case
pub case_said : (table : Table) (columns count : ℕ) (missing : List ℕ) (facts : List ℤ) → case_bytes table columns missing count facts ≡ verdict_bytes table columns (record { verdict = 1; number = 0; line = 0; count = count; missing = missing }) facts
case_said table columns count missing facts = case table columns (record { verdict = 1; number = 0; line = 0; count = count; missing = missing }) facts (λ e. omega arith) (λ e. omega arith) (λ e. omega arith)

equal_or : (m n : ℕ) → (m ≡ n) ⊎ (m ≡ n → ⊥)
equal_or m n = go (eqb m n) refl
  where
    go : (b : Bool) → eqb m n ≡ b → (m ≡ n) ⊎ (m ≡ n → ⊥)
    go true e = inl (eqb-true m n e)
    go false e = inr (eqb-false m n e)

-- whatever the verdict is, the words fit the room, and the columns of an accepted sheet are its question's
module _ (ns s : List ℕ) (after : List ℤ) (j : Judgement) (judged : Judged (table_in ns) s lent after j) (m : length j.missing ≡ answer_word_count) (l : length after ≡ least_room) where
  abbrev Fit : ℕ → Type 0
  Fit columns = (verdict_bytes (table_in ns) columns j after ≡ verdict_bytes (table_in ns) (asked s) j after) × (length (verdict_bytes (table_in ns) columns j after) ≤ text_room)

  same : (columns : ℕ) (t : List ℕ) → t ≡ verdict_bytes (table_in ns) columns j after → t ≡ verdict_bytes (table_in ns) (asked s) j after → length t ≤ text_room → Fit columns
  same columns t e f few = (sym e ∙ f, rw (← e) few)

  -- a sheet whose verdict is not 9 is accepted
  accepted : (j.verdict ≡ 9 → ⊥) → (sheet_refusal (table_in ns) s).number ≡ 0
  accepted n = ⊎_elim (λ (d : SheetSent (table_in ns) s lent after j). absurd (n (ap (λ (q : Judgement). q.verdict) d.result))) (λ d. d.0) judged

  pub fits : (columns : ℕ) → columns ≡ length (line_at s 1) / field_byte_count - 1 → Fit columns
  fits columns e =
      ⊎_elim (λ z. same columns _ (covered (table_in ns) columns j after z) (covered (table_in ns) (asked s) j after z) (omega arith))
      (λ a. ⊎_elim (λ z. same columns _ (no_log (table_in ns) columns j after z) (no_log (table_in ns) (asked s) j after z) (omega arith))
      (λ b. ⊎_elim (λ z. same columns _ (refused (table_in ns) columns j after z) (refused (table_in ns) (asked s) j after z) (refusal-few j.number j.line 0))
      (λ c. same columns _ (case (table_in ns) columns j after a b c) (ap (λ (n : ℕ). case_bytes (table_in ns) n j.missing j.count after) (e ∙ asked_is (table_in ns) s (accepted c)) ∙ case (table_in ns) (asked s) j after a b c) (case-few (table_in ns) (columns-most ns) columns j.missing j.count after m l))
      (equal_or j.verdict 9))
      (equal_or j.verdict 2))
      (equal_or j.verdict 0)

  pub told : (out new : List ℕ) (r : ℕ) → text_room ≤ length out → (columns : ℕ) → columns ≡ length (line_at s 1) / field_byte_count - 1 → Put out new 0 (verdict_bytes (table_in ns) columns j after) r → Verdict (table_in ns) s out new r
  told out new r room columns e p =
      let f = fits columns e in
      inr (record { after = after; judgement = j; judged = judged; words = all-put (said f.0 p) room (rw (← f.0) f.1) })
