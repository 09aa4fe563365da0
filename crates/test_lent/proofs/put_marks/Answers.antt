-- One word more is marked.
use mathlib.Core.Path.{◌≡◌, refl, ◌∙◌}
use native.Mathlib.Omega.{arith}
use lib.ListN.{length-set}
use Rattle.test_lent.specs.Marks.{place_mark}
use Rattle.test_lent.proofs.Places.{mark-back, put_step}
use Rattle.test_lent.proofs.put_marks.Goals as goal

pub loop-i-preserved : goal.loop-i-preserved
loop-i-preserved c = let l = c.loop-i in
    let e : c.mark_of.result ≡ place_mark l.i = c.mark_of.ensures in
    rw (e, mark-back l.i) (length-set l.lent l.i (place_mark l.i) ∙ l.invariant.0, put_step l.lent l.i (place_mark l.i) (omega arith) refl l.invariant.1)
