-- Whether the rows of a sheet's views settle its question, and what two logs are that show that they do not. A sheet's lists play no part.
use Rattle.std.specs.Prelude.{◌≡◌, List, ◌⊎◌, ℕ, zero, suc, ◌*◌, ◌<◌, ◌≤◌, length}
use Rattle.query_meaning.specs.Meaning.{Fact, Log, In, Answer}
use Rattle.query_meaning.specs.Evaluate.{◌≺◌, Answers}
use Rattle.case_verdicts.specs.Verdict.{Sheet, Agreeing, NoLog}
use Rattle.case_verdicts.specs.Handed.{Dropped, Distinct, size, Stands}

-- request 9, of verdict 3: some log agrees, and every one that does gives the question exactly these answers; they ascend, each once
pub record Settled (x : Sheet) (rs : List (List ℕ)) : Type 0 where
  pub some : (log : Log) × Agreeing x log
  pub same : (log : Log) → Agreeing x log → Answers log x.question rs

-- request 9, of the two logs: both agree, and the first gives the question an answer that the second does not
pub record ToldApart (x : Sheet) (first second : Log) (r : List ℕ) : Type 0 where
  pub first_agrees : Agreeing x first
  pub second_agrees : Agreeing x second
  pub given : Answer first x.question r
  pub lacked : Answer second x.question r → ⊥

-- request 9, of verdict 4: there are two such logs
abbrev pub NotSettled : Sheet → Type 0
NotSettled x = (first : Log) × (second : Log) × (r : List ℕ) × ToldApart x first second r

-- what each verdict's number says of the sheet; 2 is the verdict of a judgement, "no log"
abbrev pub HasSettlement : Sheet → ℕ → Type 0
HasSettlement x zero = ⊥
HasSettlement x (suc zero) = ⊥
HasSettlement x (suc (suc zero)) = NoLog x
HasSettlement x (suc (suc (suc zero))) = (rs : List (List ℕ)) × Settled x rs
HasSettlement x (suc (suc (suc (suc zero)))) = NotSettled x
HasSettlement x (suc (suc (suc (suc (suc n))))) = ⊥

-- request 9, of the two logs: drop any one fact of either, and what is left no longer agrees, or no answer is left by which the two are told apart
pub record PairSpareFree (x : Sheet) (first second : Log) : Type 0 where
  pub first_needed : (f : Fact) → In f first → (rest : Log) → Dropped f first rest → (r : List ℕ) → ToldApart x rest second r → ⊥
  pub second_needed : (f : Fact) → In f second → (rest : Log) → Dropped f second rest → (r : List ℕ) → ToldApart x first rest r → ⊥

-- request 9, of what is handed over with verdict 4: two logs without a fact to spare, and the least answer that the first gives and the second does
-- not; each is as a case is, with each fact once, no more of them than a case can have, and values that stand in the sheet or are made up
pub record HandedPair (top end : ℕ) (x : Sheet) : Type 0 where
  pub first : Log
  pub second : Log
  pub answer : List ℕ
  pub is : ToldApart x first second answer
  pub least : (r : List ℕ) → ToldApart x first second r → (answer ≡ r) ⊎ (answer ≺ r)
  pub spare_free : PairSpareFree x first second
  pub distinct : Distinct first × Distinct second
  pub most : (length first ≤ 2 * size x) × (length second ≤ 2 * size x)
  pub values : (f : Fact) → In f first ⊎ In f second → (n : ℕ) → In n f.row → Stands x n ⊎ ((top ≤ n) × (n < end))
