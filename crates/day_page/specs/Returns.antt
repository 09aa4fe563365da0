-- What judging a day returns, by number.
use Rattle.std.specs.Prelude.{Result, Ok, Err}
use Rattle.sheet_format.specs.declared.Cause.{Cause}
use Rattle.judge_ends.specs.Returns.{set_judgement_from_result}
use Rattle.day_page.specs.Answers.{DayJudgement}
use Rattle.day_page.specs.declared.JudgedDay.{JudgedDay}

abbrev pub day_judgement_from_result : Result JudgedDay Cause → DayJudgement
day_judgement_from_result (Ok d) = record { set = set_judgement_from_result (Ok d.set); bytes = d.bytes }
day_judgement_from_result (Err c) = record { set = set_judgement_from_result (Err c); bytes = 0 }
