use Rattle.std.proofs.Common.{arith, rules, refl, inl, is_some, true, false}
use Rattle.query_rows.specs.Rows.{zeros, row_values}
use Rattle.tableau_parts.proofs.Laws.{WalkAt, start-at, on-at, missing-yes, missing-no}
use Rattle.tableau_parts.specs.Views.{GivenToList}
use Rattle.case_missing_answer.proofs.Laws.{walk-below}
use Rattle.case_missing_answer.proofs.missing.Goals as goal

pub loop-next-init : goal.loop-next-init
loop-next-init c = let a = c.args in
    λ ready. start-at (GivenToList a.p.now a.facts.now) a.p.now 0 a.facts.now c.block_at-blk.result (is_some c.follow-next.result) false zeros (row_values c.follow-next.result)
    ready (inl refl) (c.block_at-blk.ensures (search rules) ready.size) refl c.follow-next.ensures.next_by

pub returns-then-i-ge-MOST_LISTS : goal.returns-then-i-ge-MOST_LISTS
returns-then-i-ge-MOST_LISTS c = let a = c.args in
    λ ready. missing-yes a.p.now a.facts.now true c.in-Some.row (rw c.in-Some.is at (c.loop-next.invariant ready)) refl
    ((c.giving_list-i.ensures ready).none c.if-i-ge-MOST_LISTS.true)

pub loop-next-preserved : goal.loop-next-preserved
loop-next-preserved c = let o = c.onward-pace in
    let row = c.in-Some.row in
    let next = c.follow-next-in-Some in
    let a = c.args in
    λ ready.
    let walk : WalkAt (GivenToList a.p.now a.facts.now) a.p.now 0 a.facts.now true row = rw c.in-Some.is at (c.loop-next.invariant ready) in
    let (lt, given) = (c.giving_list-i.ensures ready).given (let left = c.if-i-ge-MOST_LISTS.false in omega arith) in
    on-at (GivenToList a.p.now a.facts.now) a.p.now 0 a.facts.now c.block_at-blk.result (is_some next.result) true row o.result.values (row_values next.result)
    ready (inl refl) (c.block_at-blk.ensures (search rules) ready.size) refl next.ensures.next_by walk
    (o.ensures.onward ready lt given (walk-below a.p.now a.facts.now true row walk)).passed

pub returns : goal.returns
returns c = let a = c.args in
    λ ready. missing-no a.p.now a.facts.now false zeros (rw c.in_default.is at (c.loop-next.invariant ready)) refl
