use Prim.Native.Nat.{◌+◌, ◌*◌}
use native.Mathlib.Omega.{arith}
use lib.ListN.{get_or}
use lib.IntN.{pos}
use Rattle.list_laws.proofs.Ranges.{placed-more, placed-all}
use Rattle.sheet_format.specs.Line.{natural}
use Rattle.tableau_plan.proofs.put_values.Goals as goal

pub loop-c-preserved : goal.loop-c-preserved
loop-c-preserved c = let l = c.loop-c in
    let a = c.args in
    (omega arith, placed-more a.p.now l.p a.at l.c c.number_at.result (λ y. natural (get_or a.ws.now (7 * a.i + 2 + y) (pos 0))) (omega arith) c.number_at.ensures l.invariant.1)

pub returns : goal.returns
returns c = let l = c.loop-c in
    let a = c.args in
    placed-all a.p.now l.p a.at l.c 4 (λ y. natural (get_or a.ws.now (7 * a.i + 2 + y) (pos 0))) (omega arith) l.invariant.1
