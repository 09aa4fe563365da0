use mathlib.Core.Path.{ap, ◌∙◌}
use Prim.Native.Nat.{◌+◌}
use native.Mathlib.Omega.{arith}
use lib.ListN.{get_or}
use Rattle.list_laws.proofs.Ranges.{placed-more, placed-all}
use Rattle.tableau_plan.specs.Parts.{slot_of}
use Rattle.tableau_plan.proofs.place_terms.Goals as goal

pub loop-c-preserved : goal.loop-c-preserved
loop-c-preserved c = let l = c.loop-c in
    let a = c.args in
    let k = l.invariant.1.kept.above (a.from + l.c) (omega arith) in
    (omega arith, placed-more a.p.now l.p a.at l.c c.slot.result (λ y. slot_of a.copy (get_or a.p.now (a.from + y) 0)) (omega arith) (c.slot.ensures ∙ ap (slot_of a.copy) k) l.invariant.1)

pub returns : goal.returns
returns c = let l = c.loop-c in
    let a = c.args in
    placed-all a.p.now l.p a.at l.c 4 (λ y. slot_of a.copy (get_or a.p.now (a.from + y) 0)) (omega arith) l.invariant.1
