-- What is handed to C, as the definitions of the calls name it: field by field the same.
use Rattle.std.specs.Prelude.{List, map}
use Rattle.sheet_format.specs.Sheet.{Returned}
use Rattle.judge_result.specs.Answers.{Judgement}
use Rattle.judge_ends.specs.Answers.{SetJudgement}
use Rattle.day_page.specs.Answers.{DayJudgement}
use Rattle.c_results.specs.declared.Ended.{Ended}
use Rattle.c_results.specs.declared.Outcome.{Outcome}
use Rattle.c_results.specs.declared.SetOutcome.{SetOutcome}
use Rattle.c_results.specs.declared.DayOutcome.{DayOutcome}

abbrev pub returned_of : Ended → Returned
returned_of r = record { number = r.number; line = r.line; count = r.count }

abbrev pub judgement_of : Outcome → Judgement
judgement_of r = record { verdict = r.verdict; number = r.number; line = r.line; count = r.count; missing = r.missing }

abbrev pub judgements_of : List Outcome → List Judgement
judgements_of rs = map judgement_of rs

abbrev pub set_judgement_of : SetOutcome → SetJudgement
set_judgement_of r = record { number = r.number; line = r.line; count = r.count; sheets = judgements_of r.sheets }

abbrev pub day_judgement_of : DayOutcome → DayJudgement
day_judgement_of r = record { set = set_judgement_of r.set; bytes = r.bytes }
