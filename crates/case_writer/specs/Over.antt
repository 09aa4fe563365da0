-- What is handed over. `out` is what was lent, `after` what it holds afterwards.
use Rattle.std.specs.Prelude.{◌≡◌, Bool, List, ℕ, ◌*◌, ℤ, length, take, drop}
use Rattle.query_meaning.specs.Facts.{fact_words, value_end, log_of, facts_refusal}
use Rattle.query_encoding.specs.Encoding.{padded}
use Rattle.case_verdicts.specs.Verdict.{Sheet}
use Rattle.case_verdicts.specs.Handed.{Handed}
use Rattle.case_verdicts.specs.Sheets.{top}
use Rattle.tableau_parts.specs.Views.{MissingBy}
use Rattle.case_promise.proofs.Over.{HandedNumbers}

-- k facts that can be handed over, once their least missing row is known
pub record SpareFreeIn (p : List ℕ) (x : Sheet) (ks : List ℕ) (k : ℕ) : Type 0 where
  pub handed : (some : Bool) (u : List ℕ) → MissingBy some p ks u → HandedNumbers x ks k u

-- the k facts of a case stand in front of the words, and u is its missing answer, unused numbers 0; what stands after them stays
pub record HandsOver (x : Sheet) (out after : List ℤ) (k : ℕ) (u : List ℕ) : Type 0 where
  pub handed : Handed top value_end x
  pub count : k ≡ length handed.log
  pub answer : u ≡ padded handed.answer
  pub facts : (facts_refusal x.table (take (fact_words * k) after)).number ≡ 0
  pub read : log_of x.table (take (fact_words * k) after) ≡ handed.log
  pub rest : drop (fact_words * k) after ≡ drop (fact_words * k) out
  pub same : length after ≡ length out
