use mathlib.Core.Bool.{true, false, cond}
use mathlib.Core.Path.{◌≡◌, refl, sym, ◌∙◌}
use Prim.Native.Nat.{◌≤◌, ◌-◌, ◌+◌}
use native.Mathlib.Omega.{arith}
use borrow.Author.Rules.{rules}
use lib.IntN.{pos}
use lib.ListN.{get_or}
use lib.Seq.{slice}
use lib.Signed.{lt_z}
use mir.Syntax.{w32}
use mir.Val.{to_z, of_z}
use Rattle.sheet_format.proofs.Slices.{above-end, above-short, above_step}
use Rattle.list_laws.proofs.Words.{word_back}
use Rattle.sheet_format.specs.Cause.{above}
use Rattle.sheet_line_causes.proofs.is_above.Goals as goal

pub returns-then-n-i : goal.returns-then-n-i
returns-then-n-i c = let a = c.args in
    sym (c.loop-i.invariant.1 ∙ above-short c.loop-i.i a.m c.loop-i.i a.n a.before.now a.words.now c.if-n-i.true)

pub returns-then-x-y : goal.returns-then-x-y
returns-then-x-y c = sym ((let h1 : (let a = c.args in let x = to_z w32 (of_z w32 (get_or a.before.now c.loop-i.i (pos 0))) in let y = to_z w32 (of_z w32 (get_or a.words.now c.loop-i.i (pos 0))) in above (slice 2 a.m a.before.now) (slice 2 a.n a.words.now) ≡ cond (lt_z x y) true (cond (lt_z y x) false (above (slice (c.loop-i.i + 1) a.m a.before.now) (slice (c.loop-i.i + 1) a.n a.words.now)))) = let a = c.args in rw (word_back a.before.now c.loop-i.i c.x-1.given, word_back a.words.now c.loop-i.i c.y-1.given) (c.loop-i.invariant.1 ∙ above_step c.loop-i.i a.m c.loop-i.i a.n a.before.now a.words.now c.loop-i-test.true c.requires.0 c.if-n-i.false c.requires.1) in h1) ∙ rw c.if-x-y.true)

pub returns-then-y-x : goal.returns-then-y-x
returns-then-y-x c = sym ((let h2 : (let a = c.args in let x = to_z w32 (of_z w32 (get_or a.before.now c.loop-i.i (pos 0))) in let y = to_z w32 (of_z w32 (get_or a.words.now c.loop-i.i (pos 0))) in above (slice 2 a.m a.before.now) (slice 2 a.n a.words.now) ≡ cond (lt_z x y) true (cond (lt_z y x) false (above (slice (c.loop-i.i + 1) a.m a.before.now) (slice (c.loop-i.i + 1) a.n a.words.now)))) = let a = c.args in rw (word_back a.before.now c.loop-i.i c.x-1.given, word_back a.words.now c.loop-i.i c.y-1.given) (c.loop-i.invariant.1 ∙ above_step c.loop-i.i a.m c.loop-i.i a.n a.before.now a.words.now c.loop-i-test.true c.requires.0 c.if-n-i.false c.requires.1) in h2) ∙ rw (c.if-x-y.false, c.if-y-x.true))

pub loop-i-preserved : goal.loop-i-preserved
loop-i-preserved c = (omega arith, (let h3 : (let a = c.args in let x = to_z w32 (of_z w32 (get_or a.before.now c.loop-i.i (pos 0))) in let y = to_z w32 (of_z w32 (get_or a.words.now c.loop-i.i (pos 0))) in above (slice 2 a.m a.before.now) (slice 2 a.n a.words.now) ≡ cond (lt_z x y) true (cond (lt_z y x) false (above (slice (c.loop-i.i + 1) a.m a.before.now) (slice (c.loop-i.i + 1) a.n a.words.now)))) = let a = c.args in rw (word_back a.before.now c.loop-i.i c.x-1.given, word_back a.words.now c.loop-i.i c.y-1.given) (c.loop-i.invariant.1 ∙ above_step c.loop-i.i a.m c.loop-i.i a.n a.before.now a.words.now c.loop-i-test.true c.requires.0 c.if-n-i.false c.requires.1) in h3) ∙ rw (c.if-x-y.false, c.if-y-x.false))
