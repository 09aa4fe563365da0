-- Totals and lines of one sheet more; what is put for a line and for the page; the page's size; its totals are what its lines add up to, and
-- read from its bytes too.
use mathlib.Core.Path.{◌≡◌, refl, sym, ap, ◌∙◌}
use mathlib.Core.Bool.{Bool, true, false, cond}
use mathlib.Core.List.{List, [], ◌∷◌, ◌++◌}
use Prim.Native.Nat.{ℕ, zero, suc, ◌+◌, ◌*◌, ◌<◌, ◌≤◌}
use native.Mathlib.Omega.{arith}
use native.Mathlib.Numerals.{add-one}
use borrow.Author.Tests.{lt-ltb}
use lib.Dec.{eqb}
use lib.IntN.{ℤ, pos}
use lib.ListN.{length, get_or, take, length-append, length-map}
use lib.Seq.{take-suc, length-take-le}
use Rattle.std.specs.List.{count_by, sum_by}
use Rattle.std.proofs.lemmas.List.Recursion.{is_sum_by}
use Rattle.std.proofs.lemmas.List.Sums.{count_by-le-length}
use Rattle.sheet_format.specs.Limits.{field_end}
use Rattle.sheet_format.specs.Field.{field_bytes}
use Rattle.sheet_format.specs.Line.{Line, gather, line_bytes, bytes_of, byte_lines}
use Rattle.sheet_format.proofs.Good.{FittingLine, Goods, LinesNonempty}
use Rattle.sheet_format.proofs.Lists.{append-nil, gather_append, and_both}
use Rattle.sheet_format.proofs.LineLaws.{bytes-length, bytes_cons, bytes_back, goods_append}
use Rattle.text_buffer.specs.Puts.{Put}
use Rattle.text_buffer.proofs.Laws.{said, followed}
use Rattle.judge_result.specs.Answers.{Judgement}
use Rattle.judge_result.specs.Judged.{least_room}
use Rattle.judge_ends.specs.Sets.{most_sheets}
use Rattle.day_page.specs.Page.{page_room, sheet_line, sheet_lines, tally, facts_of, sum_of_facts, closing_line, page_lines, page_of, Printable, AllShown}
use Rattle.std.specs.Prelude.{Option, Result}
use Rattle.sheet_format.specs.declared.Refusal.{Refusal}
use Rattle.judge_result.specs.declared.Verdict.{Verdict}
use Rattle.judge_ends.specs.Returns.{judgement_at, judgements_at}
use Rattle.day_page.specs.Totals.{having, counted, totals_of}

abbrev Stands : Type 0
Stands = Option (Result Verdict Refusal)

-- what stands at a place past the end
abbrev pub blank : Judgement
blank = record { verdict = 0; number = 0; line = 0; count = 0; missing = [] }

-- ---- one sheet more

module _ (js : List Judgement) (i : ℕ) (within : i < length js) where
  one_more : take (i + 1) js ≡ take i js ++ (get_or js i blank ∷ [])
  one_more = rw add-one (take-suc js i blank within)

  lines_more : sheet_lines 1 (take (i + 1) js) ≡ sheet_lines 1 (take i js) ++ (sheet_line (1 + i) (get_or js i blank) ∷ [])
  unfolding sheet_lines
  lines_more = ap (sheet_lines 1) one_more ∙ go 1 (take i js) (get_or js i blank) ∙ ap (λ n. sheet_lines 1 (take i js) ++ (sheet_line (1 + n) (get_or js i blank) ∷ [])) (length-take-le i js (omega arith))
    where
      go : (p : ℕ) (xs : List Judgement) (j : Judgement) → sheet_lines p (xs ++ (j ∷ [])) ≡ sheet_lines p xs ++ (sheet_line (p + length xs) j ∷ [])
      go p [] j = let e : p ≡ p + 0 = omega arith in ap (λ n. sheet_line n j ∷ []) e
      go p (x ∷ xs) j =
          let e : suc p + length xs ≡ p + suc (length xs) = omega arith in
          ap (λ ls. sheet_line p x ∷ ls) (go (suc p) xs j ∙ ap (λ n. sheet_lines (suc p) xs ++ (sheet_line n j ∷ [])) e)

-- as the list's own count and sum
pub tally_counted : (v : ℕ) (js : List Judgement) → tally v js ≡ count_by (λ j. eqb j.verdict v) js
unfolding tally
tally_counted v js = is_sum_by (tally v) (λ j. cond (eqb j.verdict v) 1 0) refl (λ j js. refl) js

-- so at the places of a set
pub tally_at : (v : ℕ) (ps : List Stands) → tally v (judgements_at ps) ≡ count_by (λ p. eqb (judgement_at p).verdict v) ps
unfolding tally
tally_at v ps = is_sum_by (λ qs. tally v (judgements_at qs)) (λ p. cond (eqb (judgement_at p).verdict v) 1 0) refl (λ p qs. refl) ps

pub facts_at : (ps : List Stands) → sum_of_facts (judgements_at ps) ≡ sum_by (λ p. facts_of (judgement_at p)) ps
unfolding sum_of_facts
facts_at ps = is_sum_by (λ qs. sum_of_facts (judgements_at qs)) (λ p. facts_of (judgement_at p)) refl (λ p qs. refl) ps

pub at_place : (ps : List Stands) (i : ℕ) (d : Stands) → i < length ps → judgement_at (get_or ps i d) ≡ get_or (judgements_at ps) i blank
at_place [] i d within = absurd (omega arith)
at_place (p ∷ ps) zero d within = refl
at_place (p ∷ ps) (suc i) d within = at_place ps i d (omega arith)

-- ---- judgements that fit

pub shown-each : (ps : List Stands) (i : ℕ) (d : Stands) → AllShown (judgements_at ps) → i < length ps → Printable (judgement_at (get_or ps i d))
shown-each [] i d s within = absurd (omega arith)
shown-each (p ∷ ps) zero d s within = s.0
shown-each (p ∷ ps) (suc i) d s within = shown-each ps i d s.1 (omega arith)

pub tally-few : (v : ℕ) (js : List Judgement) → tally v js ≤ length js
tally-few v js = let e = tally_counted v js in let l = count_by-le-length (λ (j : Judgement). eqb j.verdict v) js in omega arith

pub sum_few : (js : List Judgement) → AllShown js → sum_of_facts js * 5 ≤ length js * least_room
unfolding sum_of_facts
sum_few [] s = omega arith
sum_few (j ∷ js) s = let a = s.0.count in let b = sum_few js s.1 in omega arith

-- ---- what is put

module _ {a b c : List ℕ} {at n m : ℕ} where
  -- a field more of a line
  pub next_field : (l : Line) (z : ℤ) → Put a b at (gather field_bytes l) n → Put b c n (field_bytes z) m → Put a c at (gather field_bytes (l ++ (z ∷ []))) m
  next_field l z p q = said (sym (gather_append field_bytes l (z ∷ []) ∙ ap (λ x. gather field_bytes l ++ x) (append-nil (field_bytes z)))) (followed p q)

  -- the line is closed
  pub line-end : (l : Line) → Put a b at (gather field_bytes l) n → Put b c n (10 ∷ []) m → Put a c at (line_bytes l) m
  unfolding line_bytes
  line-end l p q = followed p q

  bytes-more : (ls : List Line) (l : Line) → Put a b at (bytes_of ls) n → Put b c n (line_bytes l) m → Put a c at (bytes_of (ls ++ (l ∷ []))) m
  unfolding bytes_of
  bytes-more ls l p q = said (sym (gather_append line_bytes ls (l ∷ []) ∙ ap (λ x. gather line_bytes ls ++ x) (append-nil (line_bytes l)))) (followed p q)

  -- one sheet's line more
  pub sheets_more : (js : List Judgement) (i : ℕ) → i < length js → Put a b at (bytes_of (sheet_lines 1 (take i js))) n → Put b c n (line_bytes (sheet_line (1 + i) (get_or js i blank))) m → Put a c at (bytes_of (sheet_lines 1 (take (i + 1) js))) m
  sheets_more js i within p q = said (ap bytes_of (sym (lines_more js i within))) (bytes-more (sheet_lines 1 (take i js)) (sheet_line (1 + i) (get_or js i blank)) p q)

  -- so at the places of a set
  pub places_more : (ps : List Stands) (i : ℕ) (d : Stands) → i < length ps → Put a b at (bytes_of (sheet_lines 1 (take i (judgements_at ps)))) n → Put b c n (line_bytes (sheet_line (1 + i) (judgement_at (get_or ps i d)))) m → Put a c at (bytes_of (sheet_lines 1 (take (i + 1) (judgements_at ps)))) m
  places_more ps i d within p q =
      let l = length-map ps judgement_at in
      sheets_more (judgements_at ps) i (omega arith) p (said (ap (λ j. line_bytes (sheet_line (1 + i) j)) (at_place ps i d within)) q)

  -- the closing line
  pub page_end : (js : List Judgement) → Put a b at (bytes_of (sheet_lines 1 js)) n → Put b c n (line_bytes (closing_line js)) m → Put a c at (page_of js) m
  page_end js p q = bytes-more (sheet_lines 1 js) (closing_line js) p q

-- the first field of a line
pub first_field : {a b : List ℕ} {at n : ℕ} (z : ℤ) → Put a b at (field_bytes z) n → Put a b at (gather field_bytes (z ∷ [])) n
first_field z p = said (sym (append-nil (field_bytes z))) p

pub nothing_yet : (js : List Judgement) → [] ≡ bytes_of (sheet_lines 1 (take 0 js))
unfolding bytes_of sheet_lines
nothing_yet [] = refl
nothing_yet (j ∷ js) = refl

-- ---- the page's size

no_bytes : length (bytes_of []) ≡ 0
unfolding bytes_of
no_bytes = refl

lines-size : (p : ℕ) (js : List Judgement) (l : Line) → length l ≡ 5 → length (bytes_of (sheet_lines p js ++ (l ∷ []))) ≡ length js * 33 + 41
unfolding sheet_lines
lines-size p [] l five =
    let a = bytes-length l in
    let none = no_bytes in
    ap length (bytes_cons l []) ∙ length-append (gather field_bytes l) (10 ∷ bytes_of []) ∙ omega arith
lines-size p (j ∷ js) l five =
    let a = bytes-length (sheet_line p j) in
    let b = lines-size (suc p) js l five in
    ap length (bytes_cons (sheet_line p j) (sheet_lines (suc p) js ++ (l ∷ []))) ∙ length-append (gather field_bytes (sheet_line p j)) (10 ∷ bytes_of (sheet_lines (suc p) js ++ (l ∷ []))) ∙ omega arith

pub page_size : (js : List Judgement) → length (page_of js) ≡ length js * 33 + 41
page_size js = lines-size 1 js (closing_line js) refl

-- the page of a set fits what must be lent
pub page_fits : (js : List Judgement) → length js ≤ most_sheets → length (page_of js) ≤ page_room
page_fits js few = let e = page_size js in omega arith

-- ---- each total is what the lines above it add up to

having-tally : (v p : ℕ) (js : List Judgement) → tally v js ≡ having v (sheet_lines p js)
unfolding tally having sheet_lines
having-tally v p [] = refl
having-tally v p (j ∷ js) = ap (λ n. cond (eqb j.verdict v) 1 0 + n) (having-tally v (suc p) js)

counted_sum : (p : ℕ) (js : List Judgement) → sum_of_facts js ≡ counted (sheet_lines p js)
unfolding sum_of_facts counted sheet_lines
counted_sum p [] = refl
counted_sum p (j ∷ js) = ap (λ n. j.count + n) (counted_sum (suc p) js)

pub totals_add_up : (js : List Judgement) → closing_line js ≡ totals_of (sheet_lines 1 js)
totals_add_up js = rw (having-tally 0 1 js, having-tally 1 1 js, having-tally 2 1 js, having-tally 9 1 js, counted_sum 1 js)

-- ---- the same of the page's bytes, read as the lines of a sheet are

fitting : (js : List Judgement) (p : ℕ) → p + length js < field_end → AllShown js → Goods (sheet_lines p js)
unfolding sheet_lines
fitting [] p few s = tt
fitting (j ∷ js) p few s = (
  record { few = omega arith; fitting = rw (lt-ltb p field_end (omega arith), lt-ltb j.verdict field_end s.0.verdict, lt-ltb j.number field_end s.0.number, lt-ltb j.count field_end (let c = s.0.count in omega arith)) },
  fitting js (suc p) (omega arith) s.1,
)

closing-fits : (js : List Judgement) → length js ≤ most_sheets → AllShown js → FittingLine (closing_line js)
closing-fits js few s =
    record {
      few = omega arith;
      fitting = rw (
        lt-ltb (tally 0 js) field_end (let a = tally-few 0 js in omega arith),
        lt-ltb (tally 1 js) field_end (let a = tally-few 1 js in omega arith),
        lt-ltb (tally 2 js) field_end (let a = tally-few 2 js in omega arith),
        lt-ltb (tally 9 js) field_end (let a = tally-few 9 js in omega arith),
        lt-ltb (sum_of_facts js) field_end (let a = sum_few js s in omega arith),
      );
    }

formed : (js : List Judgement) (p : ℕ) (z : ℤ) (l : Line) → LinesNonempty (sheet_lines p js ++ ((z ∷ l) ∷ []))
unfolding sheet_lines
formed [] p z l = refl
formed (j ∷ js) p z l = formed js (suc p) z l

pub page_reads : (js : List Judgement) → length js ≤ most_sheets → AllShown js → byte_lines (page_of js) ≡ sheet_lines 1 js ++ (totals_of (sheet_lines 1 js) ∷ [])
page_reads js few s =
    bytes_back (page_lines js) (goods_append (sheet_lines 1 js) (closing_line js ∷ []) (fitting js 1 (omega arith) s) (closing-fits js few s, tt)) (formed js 1 (pos (tally 0 js)) _)
    ∙ ap (λ l. sheet_lines 1 js ++ (l ∷ [])) (totals_add_up js)
