use mathlib.Core.Path.{refl, ◌∙◌}
use Rattle.case_verdicts.specs.Sheets.{top}
use Rattle.case_verdicts.specs.Words.{state_of}
use Rattle.search_links.proofs.Links.{step-constant}
use Rattle.search_links.proofs.Words.{step-outside, step-root}
use Rattle.search_reasons.proofs.Ways.{way-constant, way_end, way-more}
use Rattle.search_reasons.proofs.mark_way.Goals as goal

pub returns-then-w-ge-SLOTS : goal.returns-then-w-ge-SLOTS
returns-then-w-ge-SLOTS c = let a = c.args in (way-constant a.ws.now a.w a.set.now c.if-w-ge-SLOTS.true, refl)

pub returns-then-ws-n : goal.returns-then-ws-n
returns-then-ws-n c = let l = c.loop-x in
    (λ p. way_end l.invariant.1 c.if-w-ge-SLOTS.false (step-outside top c.args.ws.now l.x c.loop-x-test.true c.if-ws-n.true), l.invariant.0)

pub returns-then-x-v : goal.returns-then-x-v
returns-then-x-v c = let l = c.loop-x in
    (λ p. way_end l.invariant.1 c.if-w-ge-SLOTS.false (step-root top c.args.ws.now l.x c.loop-x-test.true c.if-ws-n.false c.if-x-v.true), l.invariant.0)

pub loop-x-preserved : goal.loop-x-preserved
loop-x-preserved c = let k = c.add in
    let l = c.loop-x in
    (k.auto.set ∙ l.invariant.0, way-more l.invariant.1 k.new.set c.loop-x-test.true c.if-ws-n.false c.if-x-v.false k.ensures)

pub returns : goal.returns
returns c = let l = c.loop-x in
    (λ p. way_end l.invariant.1 c.if-w-ge-SLOTS.false (step-constant top (state_of top c.args.ws.now) l.x c.loop-x-test.false), l.invariant.0)
