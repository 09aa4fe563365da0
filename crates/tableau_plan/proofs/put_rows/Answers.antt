use mathlib.Core.Path.{◌≡◌, subst}
use Prim.Native.Nat.{◌/◌}
use native.Mathlib.Omega.{arith}
use lib.ListN.{length}
use Rattle.sheet_format.specs.Line.{word_lines}
use Rattle.tableau_plan.specs.Parts.{RowsDone}
use Rattle.tableau_plan.proofs.put_rows.Goals as goal

pub returns : goal.returns
returns c = let l = c.loop-i in
    let a = c.args in
    let e : l.i ≡ length a.ws.now / 7 = omega arith in
    (l.invariant.2, l.invariant.3, λ ok. (l.walk.views, subst (λ i. RowsDone l.p (word_lines a.ws.now) i l.walk.views l.walk.rows) e (l.invariant.4 ok)))
