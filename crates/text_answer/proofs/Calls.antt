-- What the calls on texts give, as what this crate's contract says.
use mathlib.Core.Path.{◌≡◌, sym, ap, ◌∙◌, subst}
use mathlib.Core.Bool.{true}
use mathlib.Core.List.{List}
use mathlib.Core.Logic.{inl, inr, ⊎_elim}
use Prim.Native.Nat.{ℕ, ◌-◌, ◌≤◌}
use native.Mathlib.Omega.{arith}
use lib.IntN.{ℤ}
use lib.ListN.{length, take}
use Rattle.sheet_format.specs.Limits.{most_bytes}
use Rattle.sheet_format.specs.Table.{Table, table_in, ten}
use Rattle.sheet_table.specs.Tables.{table_refusal, table_of}
use Rattle.sheet_table.specs.Loads.{Loads}
use Rattle.sheet_table.specs.Loads.{Loaded}
use Rattle.sheet_own_table.specs.Own.{own_bytes}
use Rattle.sheet_own_table.proofs.Means.{own-passes, own_means}
use Rattle.judge_result.specs.Judged.{Judged, TableSent, JudgedBy}
use Rattle.judge_result.specs.Answers.{Judgement}
use Rattle.text_begins.specs.Begins.{is_text_bytes}
use Rattle.text_writer.specs.Texts.{refusal_bytes}
use Rattle.text_writer.specs.Says.{SaysWords}
use Rattle.text_to_sheet.specs.Texts.{made_of, sheet_bytes, MadeAs}
use Rattle.std.specs.Prelude.{Err}
use Rattle.text_to_sheet.specs.Outcome.{Made, made_from_result}
use Rattle.text_to_sheet.specs.Outcome.Made.{Sheet, Expected, Refused}
use Rattle.text_to_sheet.specs.declared.NotMade.{NotMade}
use Rattle.text_to_sheet.specs.declared.NotMade.TheVariants as reason
use Rattle.text_to_sheet.proofs.Calls.{made_bytes, made-sheet}
use Rattle.text_message.specs.Message.{message_bytes}
use Rattle.text_judgement.specs.Verdict.{Verdict}
use Rattle.text_answer.specs.Answered.{Replied, Answered, AnsweredBy}

pub sheet-fits : {table : Table} {t old new : List ℕ} {m : Made} (n : ℕ) → MadeAs table t old new m → m ≡ Sheet n → n ≤ length new
sheet-fits {table} {t} {old} {new} n w e = (made-sheet (subst (MadeAs table t old new) e w)).fits

module _ (table : Table) (given : List ℕ) (is : is_text_bytes given ≡ true) {m : Made} {lent sheet : List ℕ} (made : MadeAs table given lent sheet m) (room : length lent ≡ most_bytes) (old new : List ℕ) (r : ℕ) where
  replied : Replied table m given old new r → Answered table given old new r
  replied d = inr (record { is = is; reply = subst (λ x. Replied table x given old new r) (made.result ∙ ap (made_of table given) room) d })

  pub judged : (n : ℕ) → m ≡ Sheet n → Verdict table (take (n - 0) sheet) old new r → Answered table given old new r
  judged n e v =
      let z : n - 0 ≡ n = omega arith in
      let b = ap (λ k. take k sheet) z ∙ made_bytes (subst (MadeAs table given lent sheet) e made) in
      replied (subst (λ x. Replied table x given old new r) (sym e) (subst (λ s. Verdict table s old new r) b v))

  pub not_made : (x : NotMade) → m ≡ made_from_result (Err x) → SaysWords (message_bytes (made_from_result (Err x))) old new r → Answered table given old new r
  not_made (reason.Expected l w k) e d = replied (subst (λ x. Replied table x given old new r) (sym e) d)
  not_made (reason.Refused f t) e d = replied (subst (λ x. Replied table x given old new r) (sym e) d)

-- ---- by a table that was read

-- what holds by its numbers holds by its bytes
pub by_bytes : (P : Table → Type 0) (tb : List ℕ) (l : Loaded) → Loads tb l → (table_refusal tb).number ≡ 0 → P (table_in l.numbers) → P (table_of tb)
by_bytes P tb l h z p = subst P (h.table z) p

pub made_by : (tb : List ℕ) (l : Loaded) → Loads tb l → (table_refusal tb).number ≡ 0 → {t old new : List ℕ} {m : Made} → MadeAs (table_in l.numbers) t old new m → MadeAs (table_of tb) t old new m
made_by tb l h z {t} {old} {new} {m} p = subst (λ x. MadeAs x t old new m) (h.table z) p

-- and back
pub judged_in : (tb : List ℕ) (l : Loaded) → Loads tb l → (table_refusal tb).number ≡ 0 → {s : List ℕ} {out after : List ℤ} {j : Judgement} → JudgedBy tb s out after j → Judged (table_in l.numbers) s out after j
judged_in tb l h z {s} {out} {after} {j} b =
    ⊎_elim (λ (d : TableSent tb out after j). absurd (d.cause z)) (λ d. subst (λ t. Judged t s out after j) (sym (h.table z)) d.1) b

module _ (tb : List ℕ) (l : Loaded) (h : Loads tb l) (given old new : List ℕ) (r : ℕ) where
  pub table_taken : l.number ≡ 0 → ((table_refusal tb).number ≡ 0 → Answered (table_of tb) given old new r) → AnsweredBy tb given old new r
  table_taken z a = let q = sym h.number ∙ z in inr (q, a q)

  pub table-refused : (l.number ≡ 0 → ⊥) → SaysWords (message_bytes (Refused l.number l.line 0)) old new r → AnsweredBy tb given old new r
  table-refused n w = inl (record {
    cause = λ z. n (h.number ∙ z);
    words = subst (λ c. SaysWords (refusal_bytes c (table_refusal tb).line 0) old new r) h.number (subst (λ k. SaysWords (refusal_bytes l.number k 0) old new r) h.line w);
  })

-- by the own table
pub own-answered : (given old new : List ℕ) (r : ℕ) → ((table_refusal own_bytes).number ≡ 0 → Answered (table_of own_bytes) given old new r) → Answered ten given old new r
own-answered given old new r a = subst (λ t. Answered t given old new r) own_means (a (ap (λ x. x.number) own-passes))
