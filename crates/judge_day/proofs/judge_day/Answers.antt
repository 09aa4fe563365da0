use borrow.Author.Rules.{rules}
use Rattle.sheet_format.specs.Table.{ten}
use Rattle.sheet_own_table.specs.Own.{own_bytes}
use Rattle.judge_result.specs.Judged.{Judged, JudgedBy}
use Rattle.judge.proofs.Ways.{own-judged}
use Rattle.day_page.specs.Returns.{day_judgement_from_result}
use Rattle.judge_day.proofs.Laws.{day_as}
use Rattle.judge_day.proofs.judge_day.Goals as goal

pub returns : goal.returns
returns c = let j = c.judge_day_loaded in
    day_as (JudgedBy own_bytes) (Judged ten) own-judged _ _ _ _ _ _ (day_judgement_from_result j.result) (j.ensures own_bytes c.own.ensures)
