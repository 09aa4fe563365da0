use Rattle.std.proofs.Common.{arith}
use Rattle.judge_result.specs.Judged.{JudgedBy}
use Rattle.judge_result.specs.Returns.{judgement_from_result}
use Rattle.judge_set.proofs.Laws.{placed}
use Rattle.judge_set.proofs.judge_place.Goals as goal

pub returns : goal.returns
returns c =
    let a = c.args in
    let j = c.judge_loaded in
    let r = c.requires.parted.room in
    λ tb loads. placed (JudgedBy tb) a.place a.bytes.now a.ends.now a.out.now j.new.out _ (judgement_from_result j.result) (omega arith) c.start_of-start.ensures _ c.first_word-first.ensures j.auto.out (j.ensures tb loads)
