-- What the calls say is what a good state needs.
use Rattle.case_verdicts.specs.Sheets.{top}
use Rattle.case_verdicts.specs.Words.{state_of}
use Rattle.search_task.proofs.NodeLaws.{ready-views}
use Rattle.search_keys.proofs.Laws.{none-clash}
use Rattle.search_leaf.proofs.Laws.{good, none-stray}
use Rattle.search_leaf.proofs.is_clean.Goals as goal

pub returns : goal.returns
returns c = λ x r on size e.
    let k = c.first_clash-clash in
    let ready = ready-views c.args.p.now x r in
    good c.args.p.now x r c.args.goal (state_of top c.args.ws.now) c.args.facts.now e (c.is_answered.ensures.fact ready size c.if-is_answered.false)
    (none-clash c.args.p.now c.args.facts.now k.result.some k.result.left k.result.right c.if-clash.false k.ensures)
    (none-stray c.args.p.now c.args.facts.now c.first.result c.is_none.result on c.is_none.ensures (c.first.ensures.stray ready))
