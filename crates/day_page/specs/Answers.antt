-- A day's judgement as the definitions speak of it: the set's, and how many bytes its page has; none where the set is sent back.
use Rattle.std.specs.Prelude.{ℕ}
use Rattle.judge_ends.specs.Answers.{SetJudgement}

pub record DayJudgement : Type 0 where
  pub set : SetJudgement
  pub bytes : ℕ
