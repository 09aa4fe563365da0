-- What judging cover gives, for all input. `out` is what was lent, `after` what it holds afterwards.
use Rattle.std.specs.Prelude.{◌≡◌, List, [], ◌++◌, ◌⊎◌, ℕ, ◌-◌, ◌*◌, ◌<◌, ◌≤◌, ℤ, length, take, drop, replicate}
use Rattle.sheet_format.specs.Table.{Table}
use Rattle.sheet_format.specs.Line.{byte_lines}
use Rattle.sheet_format.specs.Sheet.{sheet_refusal}
use Rattle.sheet_table.specs.Tables.{table_refusal, table_of}
use Rattle.query_meaning.specs.Facts.{fact_words, value_end, log_of, facts_refusal}
use Rattle.query_meaning.specs.Evaluate.{answer_word_count}
use Rattle.case_verdicts.specs.Verdict.{Sheet, HasVerdict}
use Rattle.case_verdicts.specs.Handed.{Handed}
use Rattle.case_verdicts.specs.Sheets.{top, sheet_of}
use Rattle.judge_result.specs.Answers.{Judgement}

-- Causes, 13: so many words must be lent, whatever the verdict
abbrev pub least_room : ℕ
least_room = 1260

-- Meaning, of the missing answer: four numbers, unused ones 0
abbrev pub answer_numbers : List ℕ → List ℕ
answer_numbers t = t ++ replicate (answer_word_count - length t) 0

-- what is returned: verdict, number, line, fact count, missing answer
abbrev pub judgement : ℕ → ℕ → ℕ → ℕ → List ℕ → Judgement
judgement v n l k t = record { verdict = v; number = n; line = l; count = k; missing = answer_numbers t }

-- Causes, 1 to 9: the sheet is sent back
pub record SheetSent (t : Table) (s : List ℕ) (out after : List ℤ) (r : Judgement) : Type 0 where
  pub cause : (sheet_refusal t s).number ≡ 0 → ⊥
  pub result : r ≡ judgement 9 (sheet_refusal t s).number (sheet_refusal t s).line 0 []
  pub lent : after ≡ out

-- Causes, 13: too few words are lent
pub record Short (out after : List ℤ) (r : Judgement) : Type 0 where
  pub few : length out < least_room
  pub result : r ≡ judgement 9 13 0 0 []
  pub lent : after ≡ out

-- Meaning, of verdicts 0 and 2: what the verdict says holds over all logs, and nothing is written
pub record Said (x : Sheet) (v : ℕ) (out after : List ℤ) (r : Judgement) : Type 0 where
  pub room : least_room ≤ length out
  pub holds : HasVerdict x v
  pub result : r ≡ judgement v 0 0 0 []
  pub lent : after ≡ out

-- Meaning, of verdict 1 and of the case handed over. Which case it is is free; what holds of it is `Handed`. It is read back from the words
-- by the count that is returned: those words are facts as evaluation takes them, so each has its unused words 0 and they ascend strictly.
pub record HandedOver (x : Sheet) (out after : List ℤ) (r : Judgement) : Type 0 where
  pub room : least_room ≤ length out
  pub handed : Handed top value_end x
  pub result : r ≡ judgement 1 0 0 (length handed.log) handed.answer
  pub facts : (facts_refusal x.table (take (fact_words * r.count) after)).number ≡ 0
  pub read : log_of x.table (take (fact_words * r.count) after) ≡ handed.log
  pub rest : drop (fact_words * r.count) after ≡ drop (fact_words * r.count) out
  pub same : length after ≡ length out

-- an accepted sheet's judgement
abbrev pub Decided : Sheet → List ℤ → List ℤ → Judgement → Type 0
Decided x out after r = Short out after r ⊎ (Said x 0 out after r ⊎ (HandedOver x out after r ⊎ Said x 2 out after r))

-- any sheet's, by a table of relations
abbrev pub Judged : Table → List ℕ → List ℤ → List ℤ → Judgement → Type 0
Judged t s out after r = SheetSent t s out after r ⊎ (((sheet_refusal t s).number ≡ 0) × Decided (sheet_of t (byte_lines s)) out after r)

-- ---- by the bytes of a table

-- Causes, 15: the table is sent back, and the sheet is not looked at
pub record TableSent (tb : List ℕ) (out after : List ℤ) (r : Judgement) : Type 0 where
  pub cause : (table_refusal tb).number ≡ 0 → ⊥
  pub result : r ≡ judgement 9 (table_refusal tb).number (table_refusal tb).line 0 []
  pub lent : after ≡ out

abbrev pub JudgedBy : List ℕ → List ℕ → List ℤ → List ℤ → Judgement → Type 0
JudgedBy tb s out after r = TableSent tb out after r ⊎ (((table_refusal tb).number ≡ 0) × Judged (table_of tb) s out after r)
