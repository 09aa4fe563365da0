use Rattle.std.proofs.Common.{arith, ◌∙◌, rules}
use Rattle.judge_result.specs.Judged.{JudgedBy}
use Rattle.judge_result.specs.Returns.{judgement_from_result}
use Rattle.judge_ends.specs.Returns.{judgements_at}
use Rattle.judge_set.proofs.Laws.{judged-none, judged-one-more}
use Rattle.judge_set.proofs.judge_places.Goals as goal

pub loop-place-preserved : goal.loop-place-preserved
loop-place-preserved c = let a = c.args in
    let j = c.judge_place-judged in
    let p = c.requires in (
      j.auto.out ∙ c.loop-place.invariant.0,
      λ tb loads. judged-one-more (JudgedBy tb) c.loop-place.place a.bytes.now a.ends.now a.out.now c.loop-place.out j.new.out c.loop-place.sheets j.result (omega arith) (c.loop-place.invariant.1 tb loads) (j.ensures tb loads) j.auto.out,
    )
