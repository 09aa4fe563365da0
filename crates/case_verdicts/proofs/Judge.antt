-- The verdict from two searches: one on the sheet, and one on the bare sheet where the first finds nothing.
use mathlib.Core.Path.{refl}
use mathlib.Core.List.{List, []}
use Prim.Native.Nat.{ℕ}
use Rattle.query_meaning.specs.Meaning.{Log}
use Rattle.case_verdicts.specs.Verdict.{Sheet, Agreeing, Case, Covered, NotCovered, NoLog}
use Rattle.case_verdicts.specs.Accepted.{FineSheet, Evaluable}
use Rattle.case_verdicts.specs.Tableau.{State, tableau_log, head_of, Good, bare}
use Rattle.case_verdicts.specs.Search.{free, Refuted}
use Rattle.case_verdicts.proofs.Reduce.{good-case}
use Rattle.case_verdicts.proofs.Refute.{no-case}

-- ---- the bare sheet

pub bare-accepted : {top : ℕ} {x : Sheet} → FineSheet top x → FineSheet top (bare x)
bare-accepted ok = record {
  table = ok.table;
  question = record { head = λ t m. absurd m; atoms = λ a m. absurd m; apart = λ d m. absurd m };
  lists = λ l m. absurd m;
  views = ok.views;
  rows = ok.rows;
  lengths = ok.lengths;
}

pub bare-safe : {x : Sheet} → Evaluable x → Evaluable (bare x)
bare-safe e = record { lists = λ l m. absurd m; views = e.views }

-- its cases are the agreeing logs
module _ (x : Sheet) where
  pub bare-case : {log : Log} → Agreeing x log → Case (bare x) log []
  bare-case a = record {
    agreeing = record { lawful = a.lawful; agrees = a.agrees };
    asked = record { val = λ n. 0; holds = λ b m. absurd m; differ = λ d m. absurd m; gives = refl };
    missing = λ l m. absurd m;
  }

  bare-agrees : {log : Log} {t : List ℕ} → Case (bare x) log t → Agreeing x log
  bare-agrees c = record { lawful = c.agreeing.lawful; agrees = c.agreeing.agrees }

-- ---- verdicts

module _ {top : ℕ} {x : Sheet} (ok : FineSheet top x) where
  pub says_not_covered : {s : State} → Good x s → NotCovered x
  says_not_covered {s} good = (tableau_log x s, head_of x s, good-case x ok s good)

  pub says_covered : {s : State} → Refuted top x (free top) → Good (bare x) s → Covered x
  says_covered {s} out good = record { some = (tableau_log (bare x) s, bare-agrees x (good-case (bare x) (bare-accepted ok) s good)); none = no-case x ok out }

  pub says_no_log : Refuted top (bare x) (free top) → NoLog x
  says_no_log out log a = no-case (bare x) (bare-accepted ok) out log [] (bare-case x a)
