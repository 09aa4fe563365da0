use mathlib.Core.Path.{sym, ap, ◌∙◌}
use Rattle.case_verdicts.specs.Sheets.{top}
use Rattle.case_verdicts.specs.Words.{state_of}
use Rattle.search_links.specs.Links.{root}
use Rattle.search_links.proofs.Links.{step-constant, root-fixed, root-step}
use Rattle.search_links.proofs.Words.{step-outside, step-root, step-word}
use Rattle.search_links.proofs.root_of.Goals as goal

pub returns-then-ws-n : goal.returns-then-ws-n
returns-then-ws-n c = let l = c.loop-x in
    let ws = c.args.ws.now in
    sym (root-fixed top (state_of top ws) l.x (step-outside top ws l.x c.loop-x-test.true c.if-ws-n.true)) ∙ l.invariant

pub returns-then-x-w : goal.returns-then-x-w
returns-then-x-w c = let l = c.loop-x in
    let ws = c.args.ws.now in
    sym (root-fixed top (state_of top ws) l.x (step-root top ws l.x c.loop-x-test.true c.if-ws-n.false c.if-x-w.true)) ∙ l.invariant

pub loop-x-preserved : goal.loop-x-preserved
loop-x-preserved c = let l = c.loop-x in
    let ws = c.args.ws.now in
    ap (root top (state_of top ws)) (sym (step-word top ws l.x c.loop-x-test.true c.if-ws-n.false c.if-x-w.false)) ∙ root-step top (state_of top ws) l.x ∙ l.invariant

pub returns : goal.returns
returns c = let l = c.loop-x in
    let s = state_of top c.args.ws.now in
    sym (root-fixed top s l.x (step-constant top s l.x c.loop-x-test.false)) ∙ l.invariant
