-- What judging a set returns, by number.
use Rattle.std.specs.Prelude.{List, map, replicate, Option, Some, None, Result, Ok, Err}
use Rattle.sheet_format.specs.Returns.{cause_number}
use Rattle.sheet_format.specs.declared.Cause.{Cause}
use Rattle.sheet_format.specs.declared.Refusal.{Refusal}
use Rattle.judge_result.specs.Answers.{Judgement}
use Rattle.judge_result.specs.Returns.{judgement_from_result}
use Rattle.judge_result.specs.declared.Verdict.{Verdict}
use Rattle.judge_ends.specs.Answers.{SetJudgement}
use Rattle.judge_ends.specs.Sets.{most_sheets, unjudged, set_judgement}
use Rattle.judge_ends.specs.declared.JudgedSet.{JudgedSet}

-- where there is no sheet, what stands at a place where none was judged
abbrev pub judgement_at : Option (Result Verdict Refusal) → Judgement
judgement_at (Some j) = judgement_from_result j
judgement_at None = unjudged 0

abbrev pub judgements_at : List (Option (Result Verdict Refusal)) → List Judgement
judgements_at js = map judgement_at js

-- a set that is sent back has no judgement at any place
abbrev pub set_judgement_from_result : Result JudgedSet Cause → SetJudgement
set_judgement_from_result (Ok s) = set_judgement 0 s.count (judgements_at s.sheets)
set_judgement_from_result (Err c) = set_judgement (cause_number c) 0 (replicate most_sheets (unjudged (cause_number c)))
