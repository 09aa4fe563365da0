-- No fact to spare in either log. An agreeing log whose every fact is needed for that is so in either place; the first may instead need its facts for
-- an answer beyond those of the second.
use mathlib.Core.List.{List, []}
use Prim.Native.Nat.{ℕ, ◌*◌, ◌≤◌}
use native.Mathlib.Omega.{arith}
use lib.ListN.{length}
use Rattle.query_meaning.specs.Meaning.{Log, In, Answer}
use Rattle.case_verdicts.specs.Verdict.{Sheet, Agreeing, Case}
use Rattle.case_verdicts.specs.Handed.{SpareFree, Distinct, size}
use Rattle.case_verdicts.specs.Accepted.{FineSheet}
use Rattle.case_verdicts.specs.Tableau.{bare}
use Rattle.case_verdicts.proofs.Laws.{SubLog, monotone}
use Rattle.case_verdicts.proofs.Judge.{bare-accepted, bare-case}
use Rattle.case_verdicts.proofs.Shrink.{at-most-twice}
use Rattle.case_settled.specs.Settled.{ToldApart, PairSpareFree}
use Rattle.case_settled.specs.Searches.{beyond_rows}
use Rattle.case_settled.proofs.Searches.{beyond-case}

module _ (x : Sheet) (first second : Log) where
  -- the first log, as one that has an answer beyond the second's
  pub spare_free_beyond : (rs : List (List ℕ)) → ((r : List ℕ) → In r rs → Answer second x.question r) → SpareFree (beyond_rows x rs) first → SpareFree (bare x) second → PairSpareFree x first second
  spare_free_beyond rs only one two = record {
    first_needed = λ f m rest d r p. one f m rest d r (beyond-case x rs rest p.first_agrees r p.given (λ i. p.lacked (only r i)));
    second_needed = λ f m rest d r p. two f m rest d [] (bare-case x p.second_agrees);
  }

  -- both as logs that agree
  pub spare_free_lacking : SpareFree (bare x) first → SpareFree (bare x) second → PairSpareFree x first second
  spare_free_lacking one two = record {
    first_needed = λ f m rest d r p. one f m rest d [] (bare-case x p.first_agrees);
    second_needed = λ f m rest d r p. two f m rest d [] (bare-case x p.second_agrees);
  }

-- the second log may lose facts as long as it agrees
pub apart-still : {x : Sheet} {first second rest : Log} {r : List ℕ} → ToldApart x first second r → SubLog rest second → Agreeing x rest → ToldApart x first rest r
apart-still p sub a = record { first_agrees = p.first_agrees; second_agrees = a; given = p.given; lacked = λ q. p.lacked (monotone sub q) }

-- ---- how many facts there can be

module _ {top : ℕ} (x : Sheet) (ok : FineSheet top x) (log : Log) (distinct : Distinct log) where
  pub agreeing-most : Agreeing x log → SpareFree (bare x) log → length log ≤ 2 * size x
  agreeing-most a free = let m = at-most-twice (bare x) (bare-accepted ok) log [] (bare-case x a) free distinct in omega arith

  pub beyond-most : (rs : List (List ℕ)) → FineSheet top (beyond_rows x rs) → (r : List ℕ) → Case (beyond_rows x rs) log r → SpareFree (beyond_rows x rs) log → length log ≤ 2 * size x
  beyond-most rs fine r c free = at-most-twice (beyond_rows x rs) fine log r c free distinct
