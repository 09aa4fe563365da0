use borrow.Author.Rules.{rules}
use Rattle.sheet_own_table.specs.Own.{own_bytes}
use Rattle.judge_result.specs.Returns.{judgement_from_result}
use Rattle.judge.proofs.Ways.{own-judged}
use Rattle.judge.proofs.judge.Goals as goal

pub returns : goal.returns
returns c = let j = c.judge_loaded in
    own-judged _ _ _ (judgement_from_result j.result) (j.ensures own_bytes c.own.ensures)
