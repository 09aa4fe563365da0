use native.Mathlib.Omega.{arith}
use Rattle.case_verdicts.specs.Sheets.{top}
use Rattle.search_links.proofs.Rows.{columns-start, columns-more, columns-clash, columns-end, low-u, low-r}
use Rattle.search_links.proofs.merge_all.Goals as goal

pub loop-c-init : goal.loop-c-init
loop-c-init c = λ f g. columns-start top _ _ _ 4 (omega arith) (omega arith)

pub returns-then-not-merge : goal.returns-then-not-merge
returns-then-not-merge c = let l = c.loop-c in
    let a = c.args in
    λ f g.
    let p = l.invariant f g in
    columns-clash top a.ws.now l.ws a.u.now a.r.now l.c (omega arith) (omega arith) (omega arith) f g p
    (c.if-not-merge.ensures (low-u top a.ws.now l.ws a.u.now a.r.now l.c (omega arith) (omega arith) (omega arith) f g p)
    (low-r top a.ws.now l.ws a.u.now a.r.now l.c (omega arith) (omega arith) (omega arith) f g p))

pub loop-c-preserved : goal.loop-c-preserved
loop-c-preserved c = let l = c.loop-c in
    let a = c.args in
    λ f g.
    let p = l.invariant f g in
    columns-more top a.ws.now l.ws a.u.now a.r.now l.c (omega arith) (omega arith) (omega arith) f g p
    (c.if-not-merge.ensures (low-u top a.ws.now l.ws a.u.now a.r.now l.c (omega arith) (omega arith) (omega arith) f g p)
    (low-r top a.ws.now l.ws a.u.now a.r.now l.c (omega arith) (omega arith) (omega arith) f g p))

pub returns : goal.returns
returns c = let l = c.loop-c in λ f g. columns-end top _ l.ws _ _ l.c c.loop-c-test.false (l.invariant f g)
