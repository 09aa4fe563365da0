-- What follows from the call's contract: the set is judged as it is without a page; the page that was written, read as the lines of a sheet
-- are, ends with what its lines add up to, for no sheets too; and each sheet is counted once.
use mathlib.Core.Path.{◌≡◌, refl, sym, ap, ◌∙◌, subst}
use mathlib.Core.Bool.{Bool, true, false, cond}
use mathlib.Core.List.{List, [], ◌∷◌, ◌++◌}
use mathlib.Core.Logic.{inl, inr}
use Prim.Native.Nat.{ℕ, zero, suc, ◌+◌, ◌<◌, ◌≤◌}
use native.Mathlib.Omega.{arith}
use borrow.Author.Tests.{le-ltb, eqb-true}
use lib.Dec.{eqb}
use lib.IntN.{ℤ}
use lib.ListN.{length, get_or, take, drop, length-take}
use lib.Seq.{take_at}
use Rattle.sheet_format.specs.Table.{Table}
use Rattle.sheet_format.specs.Line.{byte_lines}
use Rattle.sheet_table.specs.Tables.{table_of}
use Rattle.judge_result.specs.Judged.{Judged, JudgedBy}
use Rattle.judge_result.specs.Answers.{Judgement}
use Rattle.judge_ends.specs.Answers.{SetJudgement}
use Rattle.judge_ends.specs.Sets.{Promise, most_sheets, refusal_of_set, unjudged, SetTaken, SetJudged}
use Rattle.judge_ends.proofs.Laws.{parted}
use Rattle.day_page.specs.Page.{page_room, sheet_lines, tally, page_of}
use Rattle.day_page.specs.Totals.{totals_of}
use Rattle.day_page.proofs.Laws.{page_reads}
use Rattle.day_page.specs.Answers.{DayJudgement}
use Rattle.day_page.specs.Refusal.{refusal_of_day}
use Rattle.judge_day.specs.Days.{set_sent, results, DayTaken, DayJudged}
use Rattle.judge_day.proofs.Laws.{neither, Showing, set-shown}

-- ---- each verdict is one of four

abbrev one : ℕ → ℕ → ℕ
one v w = cond (eqb v w) 1 0

abbrev Once : ℕ → Type 0
Once v = one v 0 + (one v 1 + (one v 2 + one v 9)) ≡ 1

once : (v : ℕ) (r : Judgement) → r.verdict ≡ v → Once v → Once r.verdict
once v r e h = subst Once (sym e) h

pub judged-once : (table : Table) (s : List ℕ) (out after : List ℤ) (r : Judgement) → Judged table s out after r → Once r.verdict
judged-once table s out after r (inl d) = once 9 r (ap (λ (q : Judgement). q.verdict) d.result) refl
judged-once table s out after r (inr (clean, inl d)) = once 9 r (ap (λ (q : Judgement). q.verdict) d.result) refl
judged-once table s out after r (inr (clean, inr (inl d))) = once 0 r (ap (λ (q : Judgement). q.verdict) d.result) refl
judged-once table s out after r (inr (clean, inr (inr (inl d)))) = once 1 r (ap (λ (q : Judgement). q.verdict) d.result) refl
judged-once table s out after r (inr (clean, inr (inr (inr d)))) = once 2 r (ap (λ (q : Judgement). q.verdict) d.result) refl

pub judged-once-by : (tb s : List ℕ) (out after : List ℤ) (r : Judgement) → JudgedBy tb s out after r → Once r.verdict
judged-once-by tb s out after r (inl d) = once 9 r (ap (λ (q : Judgement). q.verdict) d.result) refl
judged-once-by tb s out after r (inr d) = judged-once (table_of tb) s out after r d.1

counts : (js : List Judgement) (n : ℕ) → n ≤ length js → ((k : ℕ) → k < n → Once (get_or js k (unjudged 0)).verdict) → tally 0 (take n js) + (tally 1 (take n js) + (tally 2 (take n js) + tally 9 (take n js))) ≡ n
unfolding tally
counts [] zero le each = refl
counts [] (suc n) le each = absurd (omega arith)
counts (j ∷ js) zero le each = refl
counts (j ∷ js) (suc n) le each =
    let here = each 0 (omega arith) in
    let others = counts js n (omega arith) (λ k lt. each (suc k) (omega arith)) in
    omega arith

-- ---- the call

module _ (J : Promise) (bytes ends : List ℕ) (out after : List ℤ) (page printed : List ℕ) (r : DayJudgement) where
  -- with room for a page the call is sent back for what the set is
  room-enough : page_room ≤ length page → refusal_of_day bytes ends out page ≡ refusal_of_set bytes ends out
  unfolding refusal_of_day
  room-enough room = rw (le-ltb (length page) page_room room) (go (eqb (refusal_of_set bytes ends out) 0) refl)
    where
      go : (b : Bool) → eqb (refusal_of_set bytes ends out) 0 ≡ b → cond b 0 (refusal_of_set bytes ends out) ≡ refusal_of_set bytes ends out
      go true e = sym (eqb-true (refusal_of_set bytes ends out) 0 e)
      go false e = refl

  pub as_set : DayJudged J bytes ends out after page printed r → page_room ≤ length page → SetJudged J bytes ends out after r.set
  as_set (inl d) room =
      let e = room-enough room in
      inl (record {
        cause = λ clean. d.cause (e ∙ clean);
        result = ap (λ (x : DayJudgement). x.set) d.result ∙ ap set_sent e;
        lent = d.words;
      })
  as_set (inr t) room = inr t.set

  module _ (t : DayTaken J bytes ends out after page printed r) where
    pub page_told : Showing J → byte_lines (take r.bytes printed) ≡ sheet_lines 1 (results ends r) ++ (totals_of (sheet_lines 1 (results ends r)) ∷ [])
    page_told showing =
        let js = results ends r in
        let shown = set-shown bytes ends out page J after r.set showing t.taken (inr t.set) in
        let l = length-take (length ends) r.set.sheets in
        let few = shown.0 in
        ap byte_lines (ap (take r.bytes) t.lent ∙ take_at (page_of js) (drop (length (page_of js)) page) r.bytes (sym t.count))
        ∙ page_reads js (omega arith) shown.1

    pub counted-once : ((s : List ℕ) (o a : List ℤ) (j : Judgement) → J s o a j → Once j.verdict) → tally 0 (results ends r) + (tally 1 (results ends r) + (tally 2 (results ends r) + tally 9 (results ends r))) ≡ length ends
    counted-once each-once =
        let j = t.set.judged in
        let places = j.places in
        let few = (parted bytes ends out t.set.taken).few in
        counts r.set.sheets (length ends) (omega arith) (λ k lt. each-once _ _ _ _ (j.each k lt))
