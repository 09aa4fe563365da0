use mathlib.Core.List.{List}
use mathlib.Core.Bool.{true, false}
use mathlib.Core.Path.{subst, ◌≡◌, refl, sym, ap, ◌∙◌}
use lib.ListN.{take, length}
use lib.Seq.{length-take-le}
use Rattle.case_minimization.specs.Minimization.{without}
use Rattle.case_minimization.specs.Parts.{TriedFact}
use Rattle.case_minimization.proofs.Laws.{left-without, tried-none, tried-kept, tried_dropped}
use Prim.Native.Nat.{ℕ, ◌≤◌, ◌-◌, ◌*◌}
use native.Mathlib.Omega.{arith}
use Rattle.case_minimization.proofs.pass.Goals as goal

pub loop-i-init : goal.loop-i-init
loop-i-init c = let a = c.args in
    (omega arith, omega arith, refl, omega arith, c.copy_rest.ensures, λ ready k. tried-none a.p.now (take (a.n * 5) a.facts.now) a.n a.n k)

pub loop-i-preserved-in-Some : goal.loop-i-preserved-in-Some
loop-i-preserved-in-Some c = let o = c.leave_out in
    let g = c.close_gap in
    let d = c.in-Some in
    let l = c.loop-i in
    let a = c.args in
    let ms = take (l.m * 5) l.facts in
    let t = c.loop-i-test.true in
    let fit : l.m * 5 ≤ length l.facts = omega (arith, l.invariant.1, l.invariant.2, c.requires.1) in (
      omega arith,
      omega arith,
      g.auto.facts ∙ l.invariant.2,
      o.auto.facts ∙ l.invariant.3,
      λ lt. o.ensures lt ∙ ap (λ (ks : List ℕ). without ks l.i) (l.invariant.4 t ∙ sym g.ensures),
      λ ready k.
          let long = length-take-le (l.m * 5) l.facts fit in
          let was = l.invariant.5 ready k in
          let left = left-without true a.p.now ms (take ((l.m - 1) * 5) l.room) l.m l.i long t (l.invariant.4 t) was.still.0.1 (d.ensures ready was.still.2 (l.invariant.4 t)) in
          subst (λ (ks : List ℕ). TriedFact a.p.now (take (a.n * 5) a.facts.now) a.n ks (l.m - 1) a.n l.i) (sym g.ensures)
          (tried_dropped a.p.now (take (a.n * 5) a.facts.now) a.n ms l.m l.i long t (omega arith) left was),
    )

pub loop-i-preserved : goal.loop-i-preserved
loop-i-preserved c = let q = c.put_back in
    let d = c.in_default in
    let l = c.loop-i in
    let a = c.args in
    let ms = take (l.m * 5) l.facts in
    let t = c.loop-i-test.true in
    let fit : l.m * 5 ≤ length l.facts = omega (arith, l.invariant.1, l.invariant.2, c.requires.1) in (
      omega arith,
      omega arith,
      l.invariant.2,
      q.auto.room ∙ l.invariant.3,
      λ lt. q.ensures (l.invariant.4 t) lt,
      λ ready k.
          let long = length-take-le (l.m * 5) l.facts fit in
          let was = l.invariant.5 ready k in
          tried-kept a.p.now (take (a.n * 5) a.facts.now) a.n ms l.m a.n l.i
          (left-without false a.p.now ms (take ((l.m - 1) * 5) l.room) l.m l.i long t (l.invariant.4 t) was.still.0.1 (d.ensures ready was.still.2 (l.invariant.4 t)))
          was,
    )

pub returns-clause-tried_fact : goal.returns-clause-tried_fact
returns-clause-tried_fact c = let l = c.loop-i in
    let a = c.args in
    let e : l.i ≡ l.m = omega arith in
    λ ready k. subst (λ (i : ℕ). TriedFact a.p.now (take (a.n * 5) a.facts.now) a.n (take (l.m * 5) l.facts) l.m a.n i) e (l.invariant.5 ready k)
