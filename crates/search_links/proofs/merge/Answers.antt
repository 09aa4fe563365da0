use native.Mathlib.Omega.{arith}
use Rattle.case_verdicts.specs.Sheets.{top}
use Rattle.search_links.proofs.Merges.{merge_same, merge_left, merge_right}
use Rattle.search_links.proofs.merge.Goals as goal

pub returns-then-a-b : goal.returns-then-a-b
returns-then-a-b c = let a = c.args in
    λ hv hw. merge_same top a.ws.now a.v a.w c.root_of-a.result c.root_of-b.result c.root_of-a.ensures c.root_of-b.ensures hv hw c.if-a-b.true

pub returns-then-a-b-2 : goal.returns-then-a-b-2
returns-then-a-b-2 c = let k = c.write in
    let a = c.args in
    λ hv hw.
    merge_right top a.ws.now a.v a.w c.root_of-a.result c.root_of-b.result c.root_of-a.ensures c.root_of-b.ensures hv hw
    k.result k.new.ws c.if-a-b-2.true k.ensures

pub returns : goal.returns
returns c = let k = c.write-2 in
    let a = c.args in
    λ hv hw.
    merge_left top a.ws.now a.v a.w c.root_of-a.result c.root_of-b.result c.root_of-a.ensures c.root_of-b.ensures hv hw
    k.result k.new.ws (let o = c.if-a-b.false in let l = c.if-a-b-2.false in omega arith) k.ensures
