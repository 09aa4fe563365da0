-- A set's judgement as the definitions speak of it: the number and line of its refusal, both 0 where it is taken, how many sheets were judged,
-- and a judgement for each place.
use Rattle.std.specs.Prelude.{List, ℕ}
use Rattle.judge_result.specs.Answers.{Judgement}

pub record SetJudgement : Type 0 where
  pub number : ℕ
  pub line : ℕ
  pub count : ℕ
  pub sheets : List Judgement
