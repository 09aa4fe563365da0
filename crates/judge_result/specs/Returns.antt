-- What judging returns, by number.
use Rattle.std.specs.Prelude.{[], ℕ, Result, Ok, Err}
use Rattle.sheet_format.specs.Returns.{cause_number}
use Rattle.sheet_format.specs.declared.Refusal.{Refusal}
use Rattle.judge_result.specs.Answers.{Judgement}
use Rattle.judge_result.specs.Judged.{judgement}
use Rattle.judge_result.specs.declared.Verdict.{Verdict}
use Rattle.judge_result.specs.declared.Verdict.TheVariants.{Covered, NotCovered, NoLog}

abbrev pub judgement_from_verdict : Verdict → Judgement
judgement_from_verdict Covered = judgement 0 0 0 0 []
judgement_from_verdict (NotCovered n t) = record { verdict = 1; number = 0; line = 0; count = n; missing = t }
judgement_from_verdict NoLog = judgement 2 0 0 0 []

abbrev pub judgement_from_result : Result Verdict Refusal → Judgement
judgement_from_result (Ok v) = judgement_from_verdict v
judgement_from_result (Err r) = judgement 9 (cause_number r.cause) r.line 0 []
