use lib.ListN.{take}
use lib.Seq.{length-take-le}
use Rattle.case_minimization.proofs.Laws.{tried-start, tried_again, shrunk}
use mathlib.Core.Path.{refl, ◌∙◌}
use Prim.Native.Nat.{◌+◌, ◌*◌}
use native.Mathlib.Omega.{arith}
use Rattle.case_minimization.proofs.shrink.Goals as goal

pub loop-m-init : goal.loop-m-init
loop-m-init c = let a = c.args in
    (omega arith, omega arith, refl, λ ready k. tried-start a.p.now (take (a.n * 5) a.facts.now) a.n (a.n + 1) (omega arith) k)

pub loop-m-preserved : goal.loop-m-preserved
loop-m-preserved c = let r = c.pass-m in
    let l = c.loop-m in
    let a = c.args in
    let e = r.ensures.upper_bound in (
      omega arith,
      e,
      r.auto.facts ∙ l.invariant.2,
      λ ready k.
          let t = l.invariant.3 ready k in
          tried_again a.p.now (take (a.n * 5) a.facts.now) a.n (take (l.m * 5) l.facts) l.m l.before l.m (take (r.result * 5) r.new.facts) r.result t (r.ensures.tried_fact ready t.still),
    )

pub returns : goal.returns
returns c = let l = c.loop-m in
    let a = c.args in
    λ ready few fit k.
    shrunk a.p.now (take (a.n * 5) a.facts.now) a.n (take (l.m * 5) l.facts) l.m l.before (length-take-le (l.m * 5) l.facts (omega arith)) (omega arith) (l.invariant.3 ready k)
