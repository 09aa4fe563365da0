use borrow.Author.Rules.{rules}
use Rattle.sheet_format.specs.Table.{ten}
use Rattle.sheet_own_table.specs.Own.{own_bytes}
use Rattle.judge_result.specs.Judged.{Judged, JudgedBy}
use Rattle.judge.proofs.Ways.{own-judged}
use Rattle.judge_ends.specs.Returns.{set_judgement_from_result}
use Rattle.judge_set.proofs.Laws.{set_as}
use Rattle.judge_set.proofs.judge_set.Goals as goal

pub returns : goal.returns
returns c = let j = c.judge_set_loaded in
    set_as (JudgedBy own_bytes) (Judged ten) own-judged _ _ _ _ (set_judgement_from_result j.result) (j.ensures own_bytes c.own.ensures)
