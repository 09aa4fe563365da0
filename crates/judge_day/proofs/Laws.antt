-- Refusals' numbers; what is judged fits the fields of a page; the call's refusal, and both ways that it ends.
use mathlib.Core.Path.{◌≡◌, refl, sym, ap, ◌∙◌, subst}
use mathlib.Core.Bool.{Bool, true, false, cond, ◌&&◌}
use mathlib.Core.List.{List, [], ◌∷◌, ◌++◌}
use mathlib.Core.Logic.{◌⊎◌, inl, inr, ⊎_elim}
use Prim.Native.Nat.{ℕ, zero, suc, ◌+◌, ◌*◌, ◌<◌, ◌≤◌}
use native.Mathlib.Omega.{arith}
use borrow.Author.Tests.{ltb-false, eqb-true, eqb-false}
use lib.Dec.{eqb, ltb}
use lib.IntN.{ℤ}
use lib.ListN.{length, get_or, take, drop, length-take, length-drop, length-map}
use Rattle.sheet_format.specs.Limits.{field_end, most_relations, most_sheet_bytes}
use Rattle.sheet_format.specs.Table.{Relation, Table}
use Rattle.sheet_format.specs.Line.{Line, byte_lines, null}
use Rattle.sheet_format.specs.Cause.{cause, misplaced, wrong_columns, out_of_range, too_many_blocks, wrong_length, not_above, kind, next, start, refusal, none, missing, scan, heads, atoms, unsafe, refusal_of}
use Rattle.sheet_format.specs.Sheet.{over, sheet_refusal}
use Rattle.sheet_format.specs.Answers.{Refusal}
use Rattle.sheet_format.specs.Answers.{Seen}
use Rattle.text_buffer.specs.Puts.{Put}
use Rattle.text_buffer.proofs.Laws.{reached-all, placed-all, said}
use Rattle.sheet_table.specs.Tables.{relation_on_line, line_right, lines_refusal, table_refusal, table_of}
use Rattle.case_verdicts.specs.Verdict.{Sheet}
use Rattle.case_verdicts.specs.Sheets.{sheet_of}
use Rattle.judge_result.specs.Judged.{least_room, judgement, Decided, Judged, JudgedBy}
use Rattle.judge_result.specs.Answers.{Judgement}
use Rattle.judge_result.proofs.Verdicts.{count_fits, count-fits-by}
use Rattle.judge_ends.specs.Answers.{SetJudgement}
use Rattle.judge_ends.specs.Sets.{Promise, most_sheets, sheet_at, stretch_at, refusal_of_set, unjudged, set_judgement, SetSent, SetTaken, SetJudged, JudgedTo}
use Rattle.judge_ends.proofs.Laws.{parted}
use Rattle.judge_set.proofs.Laws.{set_as}
use Rattle.day_page.specs.Page.{page_room, page_of, Printable, AllShown}
use Rattle.day_page.proofs.Laws.{page_fits}
use Rattle.day_page.specs.Answers.{DayJudgement}
use Rattle.day_page.specs.Refusal.{refusal_of_day}
use Rattle.std.specs.Prelude.{Option, Result, Ok, Err}
use Rattle.std.proofs.lemmas.List.{take-map}
use Rattle.sheet_format.specs.declared.Cause.{Cause}
use Rattle.sheet_format.specs.declared.Refusal.{Refusal as CauseAtLine}
use Rattle.sheet_format.specs.Returns.{cause_number}
use Rattle.sheet_format.proofs.Endings.{named}
use Rattle.judge_result.specs.declared.Verdict.{Verdict}
use Rattle.judge_ends.specs.declared.JudgedSet.{JudgedSet}
use Rattle.judge_ends.specs.Returns.{judgement_at, judgements_at, set_judgement_from_result}
use Rattle.day_page.specs.declared.JudgedDay.{JudgedDay}
use Rattle.day_page.specs.Returns.{day_judgement_from_result}
use Rattle.judge_day.specs.Days.{day_judgement, set_sent, DaySent, DayTaken, DayJudged}

-- ---- a sheet is sent back by a number up to 9

few : (b : Bool) (m n : ℕ) → m ≤ 9 → n ≤ 9 → cond b m n ≤ 9
few true m n h k = h
few false m n h k = k

either : (b : Bool) (r q : Refusal) → r.number ≤ 9 → q.number ≤ 9 → (cond b r q).number ≤ 9
either true r q h k = h
either false r q h k = k

cause-few : (table : Table) (g : Seen) (before l : Line) → cause table g before l ≤ 9
unfolding cause
cause-few table g before l =
    few (null l) 2 _ (omega arith)
    (few (misplaced g l) 3 _ (omega arith)
    (few (wrong_columns table (kind l) l) 4 _ (omega arith)
    (few (out_of_range (kind l) l) 5 _ (omega arith)
    (few (too_many_blocks g (kind l)) 6 _ (omega arith)
    (few (wrong_length g (kind l) l) 7 _ (omega arith)
    (few (not_above g before (kind l) l) 9 0 (omega arith) (omega arith)))))))

scan-few : (table : Table) (g : Seen) (before : Line) (n : ℕ) (ls : List Line) → (scan table g before n ls).number ≤ 9
unfolding scan
scan-few table g before n [] = either (ltb g.block 2) (refusal 3 0) none (omega arith) (omega arith)
scan-few table g before n (l ∷ ls) = either (eqb (cause table g before l) 0) (scan table (next g l) l (n + 1) ls) (refusal (cause table g before l) n) (scan-few table (next g l) l (n + 1) ls) (cause-few table g before l)

heads-few : (n : ℕ) (ls : List Line) → (heads n ls).number ≤ 9
unfolding heads
heads-few n [] = omega arith
heads-few n (l ∷ ls) = either (unsafe l (atoms ls)) (refusal 8 n) (heads (n + 1) ls) (omega arith) (heads-few (n + 1) ls)

lines-few : (table : Table) (ls : List Line) → (refusal_of table ls).number ≤ 9
unfolding refusal_of
lines-few table ls = either (eqb (scan table start [] 1 ls).number 0) (heads 1 ls) (scan table start [] 1 ls) (heads-few 1 ls) (scan-few table start [] 1 ls)

pub refusal-few : (table : Table) (s : List ℕ) → (sheet_refusal table s).number ≤ 9
unfolding sheet_refusal
refusal-few table s = either (ltb most_sheet_bytes (length s)) (refusal 1 0) (refusal_of table (byte_lines s)) (omega arith) (lines-few table (byte_lines s))

-- ---- a table by 15

either-table : (b : Bool) (r q : Refusal) → r.number ≤ 15 → q.number ≤ 15 → (cond b r q).number ≤ 15
either-table true r q h k = h
either-table false r q h k = k

relations-few : (rs : List Relation) (ls : List Line) → (lines_refusal rs ls).number ≤ 15
unfolding lines_refusal
relations-few rs [] = omega arith
relations-few rs (l ∷ ls) =
    either-table (ltb (length rs) most_relations && line_right rs l) (lines_refusal (rs ++ (relation_on_line l ∷ [])) ls) (refusal 15 (length rs + 1)) (relations-few (rs ++ (relation_on_line l ∷ [])) ls) (omega arith)

table-few : (tb : List ℕ) → (table_refusal tb).number ≤ 15
unfolding table_refusal
table-few tb = either-table (null (byte_lines tb)) (refusal 15 0) (lines_refusal [] (byte_lines tb)) (omega arith) (relations-few [] (byte_lines tb))

-- ---- what is judged fits a page's fields

-- what is promised of a sheet, and fits the fields where it has a stretch
abbrev pub Showing : Promise → Type 0
Showing J = (s : List ℕ) (out after : List ℤ) (r : Judgement) → J s out after r → length out ≡ least_room → Printable r

shown_as : (r : Judgement) → r.count * 5 ≤ least_room → (v n l k : ℕ) (t : List ℕ) → r ≡ judgement v n l k t → v ≤ 9 → n ≤ 15 → Printable r
shown_as r fits v n l k t e small low =
    let a : r.verdict ≡ v = ap (λ (q : Judgement). q.verdict) e in
    let b : r.number ≡ n = ap (λ (q : Judgement). q.number) e in
    record { verdict = omega arith; number = omega arith; count = fits }

shown-decided : (x : Sheet) (out after : List ℤ) (r : Judgement) → r.count * 5 ≤ least_room → Decided x out after r → Printable r
shown-decided x out after r fits (inl d) = shown_as r fits 9 13 0 0 [] d.result (omega arith) (omega arith)
shown-decided x out after r fits (inr (inl d)) = shown_as r fits 0 0 0 0 [] d.result (omega arith) (omega arith)
shown-decided x out after r fits (inr (inr (inl d))) = shown_as r fits 1 0 0 (length d.handed.log) d.handed.answer d.result (omega arith) (omega arith)
shown-decided x out after r fits (inr (inr (inr d))) = shown_as r fits 2 0 0 0 [] d.result (omega arith) (omega arith)

pub shown : (table : Table) → Showing (Judged table)
shown table s out after r judged size = go judged
  where
    fits : r.count * 5 ≤ least_room
    fits = count_fits table s out after r judged size

    go : Judged table s out after r → Printable r
    go (inl d) = let h = refusal-few table s in shown_as r fits 9 (sheet_refusal table s).number (sheet_refusal table s).line 0 [] d.result (omega arith) (omega arith)
    go (inr d) = shown-decided (sheet_of table (byte_lines s)) out after r fits d.1

pub shown_by : (tb : List ℕ) → Showing (JudgedBy tb)
shown_by tb s out after r (inl d) size = let h = table-few tb in shown_as r (count-fits-by tb s out after r (inl d) size) 9 (table_refusal tb).number (table_refusal tb).line 0 [] d.result (omega arith) (omega arith)
shown_by tb s out after r (inr d) size = shown (table_of tb) s out after r d.1 size

all_shown : (js : List Judgement) (n : ℕ) → n ≤ length js → ((k : ℕ) → k < n → Printable (get_or js k (unjudged 0))) → AllShown (take n js)
all_shown [] zero le each = tt
all_shown [] (suc n) le each = absurd (omega arith)
all_shown (j ∷ js) zero le each = tt
all_shown (j ∷ js) (suc n) le each = (each 0 (omega arith), all_shown js n (omega arith) (λ k lt. each (suc k) (omega arith)))

stretch_size : (n k : ℕ) (out : List ℤ) → k < n → n * least_room ≤ length out → length (stretch_at out k) ≡ least_room
stretch_size n k out lt room = let a = length-take least_room (drop (k * least_room) out) in let b = length-drop (k * least_room) out in omega arith

-- ---- the call's refusal

module _ (bytes ends : List ℕ) (out : List ℤ) (page : List ℕ) where
  -- a call that is not sent back has a set that is not, and room for a page
  pub neither : refusal_of_day bytes ends out page ≡ 0 → (refusal_of_set bytes ends out ≡ 0) × (page_room ≤ length page)
  unfolding refusal_of_day
  neither e = go (eqb (refusal_of_set bytes ends out) 0) refl (ltb (length page) page_room) refl e
    where
      go : (a : Bool) → eqb (refusal_of_set bytes ends out) 0 ≡ a → (b : Bool) → ltb (length page) page_room ≡ b → cond a (cond b 13 0) (refusal_of_set bytes ends out) ≡ 0 → (refusal_of_set bytes ends out ≡ 0) × (page_room ≤ length page)
      go true p true q f = absurd (omega arith)
      go true p false q f = (eqb-true (refusal_of_set bytes ends out) 0 p, ltb-false (length page) page_room q)
      go false p b q f = absurd (eqb-false (refusal_of_set bytes ends out) 0 p f)

  -- ---- both ways that the call ends

  module _ (J : Promise) (after : List ℤ) (s : SetJudgement) where
    -- a set that is not sent back is taken
    pub set-taken : refusal_of_set bytes ends out ≡ 0 → SetJudged J bytes ends out after s → SetTaken J bytes ends out after s
    set-taken clean (inl d) = absurd (d.cause clean)
    set-taken clean (inr t) = t

    -- its results fit the fields
    pub set-shown : Showing J → refusal_of_day bytes ends out page ≡ 0 → SetJudged J bytes ends out after s → (length ends ≤ most_sheets) × AllShown (take (length ends) s.sheets)
    set-shown showing clean judged =
        let set = (neither clean).0 in
        let p = parted bytes ends out set in
        let t = (set-taken set judged).judged in
        let l = t.places in
        let few = p.few in (
          p.few,
          all_shown s.sheets (length ends) (omega arith)
              (λ k lt. showing (sheet_at bytes ends k) (stretch_at out k) (stretch_at after k) (get_or s.sheets k (unjudged 0)) (t.each k lt) (stretch_size (length ends) k out lt p.room)),
        )

    -- so do they as they are returned
    pub places-shown : (set : JudgedSet) → s ≡ set_judgement_from_result (Ok set) → Showing J → refusal_of_day bytes ends out page ≡ 0 → SetJudged J bytes ends out after s → (length ends ≤ most_sheets) × AllShown (judgements_at (take (length ends) set.sheets))
    places-shown set is showing clean judged =
        let shown = set-shown showing clean judged in
        (shown.0, subst AllShown (ap (λ (x : SetJudgement). take (length ends) x.sheets) is ∙ take-map judgement_at (length ends) set.sheets) shown.1)

    -- a set that is taken is not returned as one that is sent back
    pub no-set : {P : Type 0} (c : Cause) → s ≡ set_judgement_from_result (Err c) → refusal_of_day bytes ends out page ≡ 0 → SetJudged J bytes ends out after s → P
    no-set c is clean judged =
        let t = set-taken (neither clean).0 judged in
        absurd (named c (ap (λ (x : SetJudgement). x.number) (sym is ∙ t.result)))

  pub day_sent : (J : Promise) (c : Cause) → cause_number c ≡ refusal_of_day bytes ends out page → DayJudged J bytes ends out out page page (day_judgement_from_result (Err c))
  day_sent J c is = inl (record {
    cause = λ e. named c (is ∙ e);
    result = ap (λ n. day_judgement (set_sent n) 0) is;
    words = refl;
    lent = refl;
  })

  pub day_taken : (J : Promise) (after : List ℤ) (printed : List ℕ) (s : SetJudgement) (m : ℕ) → refusal_of_day bytes ends out page ≡ 0 → SetJudged J bytes ends out after s → Put page printed 0 (page_of (take (length ends) s.sheets)) m → DayJudged J bytes ends out after page printed (day_judgement s m)
  day_taken J after printed s m clean judged put =
      let both = neither clean in
      let js = take (length ends) s.sheets in
      let t = length-take (length ends) s.sheets in
      let f = (parted bytes ends out both.0).few in
      let fits = page_fits js (omega arith) in
      let room = both.1 in
      inr (record {
        taken = clean;
        set = set-taken J after s both.0 judged;
        count = put.place ∙ reached-all (length page) 0 (page_of js) (omega arith) ∙ omega arith;
        lent = put.bytes ∙ placed-all page 0 (page_of js) (omega arith) ∙ ap (λ (n : ℕ). page_of js ++ drop n page) (let e : 0 + length (page_of js) ≡ length (page_of js) = omega arith in e);
      })

  -- the page of the places that are returned
  pub page-put : (J : Promise) (after : List ℤ) (printed : List ℕ) (set : JudgedSet) (m : ℕ) → refusal_of_day bytes ends out page ≡ 0 → SetJudged J bytes ends out after (set_judgement_from_result (Ok set)) → Put page printed 0 (page_of (judgements_at (take (length ends) set.sheets))) m
      → DayJudged J bytes ends out after page printed (day_judgement_from_result (Ok (record { set = set; bytes = m })))
  page-put J after printed set m clean judged put =
      day_taken J after printed (set_judgement_from_result (Ok set)) m clean judged (said (ap page_of (sym (take-map judgement_at (length ends) set.sheets))) put)

-- what is promised of each sheet may be said otherwise
pub day_as : (J K : Promise) → ((s : List ℕ) (o a : List ℤ) (j : Judgement) → J s o a j → K s o a j) → (bytes ends : List ℕ) (out after : List ℤ) (page printed : List ℕ) (r : DayJudgement) → DayJudged J bytes ends out after page printed r
    → DayJudged K bytes ends out after page printed r
day_as J K f bytes ends out after page printed r (inl d) = inl d
day_as J K f bytes ends out after page printed r (inr t) = inr (record { taken = t.taken; set = still (set_as J K f bytes ends out after r.set (inr t.set)); count = t.count; lent = t.lent })
  where
    still : SetJudged K bytes ends out after r.set → SetTaken K bytes ends out after r.set
    still (inl d) = absurd (d.cause t.set.taken)
    still (inr u) = u
