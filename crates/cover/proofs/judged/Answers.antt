use Rattle.judge_result.proofs.Verdicts.{count-fits-by}
use Rattle.judge_result.specs.Returns.{judgement_from_result}
use Rattle.cover.proofs.judged.Goals as goal

pub returns : goal.returns
returns c =
    let j = c.judge_by_table in
    count-fits-by c.args.table.now c.args.sheet.now c.args.facts.now j.new.out (judgement_from_result j.result) j.ensures c.requires
