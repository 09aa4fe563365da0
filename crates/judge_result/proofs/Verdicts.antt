-- What follows from a judgement: a verdict is returned exactly when it holds, and a case's count fits the words lent.
use mathlib.Core.Path.{◌≡◌, sym, ap, ◌∙◌, subst}
use mathlib.Core.List.{List, []}
use mathlib.Core.Logic.{◌⊎◌, inl, inr, ⊎_elim}
use Prim.Native.Nat.{ℕ, zero, suc, ◌*◌, ◌/◌, ◌<◌, ◌≤◌}
use native.Mathlib.Omega.{arith}
use lib.IntN.{ℤ}
use lib.ListN.{length, take, length-take}
use Rattle.sheet_format.specs.Table.{Table}
use Rattle.sheet_format.specs.Line.{byte_lines}
use Rattle.sheet_format.specs.Sheet.{sheet_refusal}
use Rattle.sheet_table.specs.Tables.{table_of}
use Rattle.query_meaning.specs.Facts.{log_of}
use Rattle.query_facts.proofs.Laws.{log_of-length}
use Rattle.case_verdicts.specs.Verdict.{Sheet, HasVerdict}
use Rattle.case_verdicts.specs.Sheets.{sheet_of}
use Rattle.case_verdicts.proofs.Verdicts.{exclusive}
use Rattle.judge_result.specs.Judged.{least_room, judgement, SheetSent, Short, Said, HandedOver, Decided, Judged, JudgedBy}
use Rattle.judge_result.specs.Answers.{Judgement}

module _ (x : Sheet) (out after : List ℤ) (r : Judgement) (room : least_room ≤ length out) where
  -- the verdict that is returned holds
  decided-holds : Decided x out after r → HasVerdict x r.verdict
  decided-holds (inl d) = let f = d.few in absurd (omega arith)
  decided-holds (inr (inl d)) = subst (HasVerdict x) (sym (ap (λ (q : Judgement). q.verdict) d.result)) d.holds
  decided-holds (inr (inr (inl d))) = subst (HasVerdict x) (sym (ap (λ (q : Judgement). q.verdict) d.result)) (d.handed.log, d.handed.answer, d.handed.is)
  decided-holds (inr (inr (inr d))) = subst (HasVerdict x) (sym (ap (λ (q : Judgement). q.verdict) d.result)) d.holds

module _ (table : Table) (s : List ℕ) (out after : List ℤ) (r : Judgement) (judged : Judged table s out after r) where
  -- a sheet without cause, and words enough: the verdict returned is v exactly when v holds of the sheet
  module _ (clean : (sheet_refusal table s).number ≡ 0) (room : least_room ≤ length out) where
    verdict-holds : HasVerdict (sheet_of table (byte_lines s)) r.verdict
    verdict-holds = ⊎_elim (λ (d : SheetSent table s out after r). absurd (d.cause clean)) (λ d. decided-holds (sheet_of table (byte_lines s)) out after r room d.1) judged

    pub verdict_only_when : (v : ℕ) → r.verdict ≡ v → HasVerdict (sheet_of table (byte_lines s)) v
    verdict_only_when v e = subst (HasVerdict (sheet_of table (byte_lines s))) e verdict-holds

    pub verdict_when : (v : ℕ) → HasVerdict (sheet_of table (byte_lines s)) v → r.verdict ≡ v
    verdict_when v h = exclusive (sheet_of table (byte_lines s)) r.verdict v verdict-holds h

  -- the facts of a case fit the words
  pub count_fits : length out ≡ least_room → r.count * 5 ≤ least_room
  count_fits size = ⊎_elim (λ (d : SheetSent table s out after r). nothing d.result) (λ d. decided d.1) judged
    where
      nothing : {v n l : ℕ} → r ≡ judgement v n l 0 [] → r.count * 5 ≤ least_room
      nothing e = let z : r.count ≡ 0 = ap (λ (q : Judgement). q.count) e in omega arith

      case : HandedOver (sheet_of table (byte_lines s)) out after r → r.count * 5 ≤ least_room
      case d =
          let z : r.count ≡ length d.handed.log = ap (λ (q : Judgement). q.count) d.result in
          let l : length d.handed.log ≡ length (take (5 * r.count) after) / 5 = sym (ap length d.read) ∙ log_of-length table (take (5 * r.count) after) in
          let t = length-take (5 * r.count) after in
          let a = d.same in
          omega arith

      decided : Decided (sheet_of table (byte_lines s)) out after r → r.count * 5 ≤ least_room
      decided (inl d) = nothing d.result
      decided (inr (inl d)) = nothing d.result
      decided (inr (inr (inl d))) = case d
      decided (inr (inr (inr d))) = nothing d.result

-- so it is by a table's bytes
pub count-fits-by : (tb s : List ℕ) (out after : List ℤ) (r : Judgement) → JudgedBy tb s out after r → length out ≡ least_room → r.count * 5 ≤ least_room
count-fits-by tb s out after r (inl d) size = let z : r.count ≡ 0 = ap (λ (q : Judgement). q.count) d.result in omega arith
count-fits-by tb s out after r (inr d) size = count_fits (table_of tb) s out after r d.1 size
