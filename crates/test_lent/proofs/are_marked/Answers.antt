use mathlib.Core.Path.{◌≡◌, sym, ap, ◌∙◌}
use Prim.Native.Nat.{ℕ, ◌<◌}
use native.Mathlib.Omega.{arith}
use lib.IntN.{pos}
use mir.Syntax.{w32}
use mir.Val.{of_z}
use lib.ListN.{length, get_or}
use Rattle.test_lent.specs.Marks.{place_mark}
use Rattle.test_lent.proofs.Places.{mark_of_bits, first-marked, rest-marked, more-marked}
use Rattle.test_lent.proofs.are_marked.Goals as goal

pub returns-then-lent-i : goal.returns-then-lent-i
returns-then-lent-i c = let l = c.loop-i in
    let e = c.mark_of.ensures in
    record {
      yes = λ e. (let z : ◌≡◌ {A = ℕ} 0 1 = cc in absurd (omega arith));
      no = λ f m. c.if-lent-i.true (ap (of_z w32) (first-marked c.args.lent.now l.i (pos 0) (omega arith) (l.invariant.1 (record { marked = m })) ∙ sym e));
    }

pub loop-i-preserved : goal.loop-i-preserved
loop-i-preserved c = let s = c.args.lent.now in
    let l = c.loop-i in
    let h : l.i < length s = omega arith in
    let b = c.if-lent-i.false in
    let e : get_or s l.i (pos 0) ≡ place_mark l.i = mark_of_bits l.i (record { sfits = c.t8-1.given }) (rw c.mark_of.ensures at b) in
    (λ m. l.invariant.0 (more-marked s l.i (pos 0) h e m), λ m. rest-marked s l.i (pos 0) h (l.invariant.1 m))
