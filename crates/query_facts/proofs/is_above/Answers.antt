use mathlib.Core.Path.{◌≡◌, sym, ◌∙◌}
use mathlib.Core.Bool.{true, false, cond}
use mathlib.Core.List.{[]}
use Prim.Native.Nat.{◌+◌, ◌*◌}
use native.Mathlib.Nat.{add-zero}
use native.Mathlib.Omega.{arith}
use lib.IntN.{pos}
use lib.ListN.{get_or}
use lib.Seq.{slice}
use lib.Signed.{lt_z}
use mir.Syntax.{w32}
use mir.Val.{to_z, of_z}
use Rattle.sheet_format.proofs.Slices.{above_step}
use Rattle.list_laws.proofs.Words.{word_back}
use Rattle.sheet_format.specs.Cause.{above}
use Rattle.query_meaning.specs.Facts.{facts_in}
use Rattle.query_facts.proofs.Laws.{fact_words, next-words}
use Rattle.query_facts.proofs.is_above.Goals as goal

pub loop-j-init : goal.loop-j-init
loop-j-init c = let a = c.args in
    rw (add-zero (5 * a.i), add-zero (5 * a.i + 5), fact_words a.fs.now a.i (omega arith), next-words a.fs.now a.i c.requires)

pub returns-then-x-y : goal.returns-then-x-y
returns-then-x-y c = sym ((let h1 : (let a = c.args in let x = to_z w32 (of_z w32 (get_or a.fs.now (5 * a.i + c.loop-j.j) (pos 0))) in let y = to_z w32 (of_z w32 (get_or a.fs.now (5 * a.i + 5 + c.loop-j.j) (pos 0))) in above (get_or (facts_in a.fs.now) a.i []) (get_or (facts_in a.fs.now) (a.i + 1) []) ≡ cond (lt_z x y) true (cond (lt_z y x) false (above (slice (5 * a.i + (c.loop-j.j + 1)) (5 * a.i + 5) a.fs.now) (slice (5 * a.i + 5 + (c.loop-j.j + 1)) (5 * a.i + 5 + 5) a.fs.now)))) = let a = c.args in let e : 5 * a.i + (c.loop-j.j + 1) ≡ 5 * a.i + c.loop-j.j + 1 = omega arith in let f : 5 * a.i + 5 + (c.loop-j.j + 1) ≡ 5 * a.i + 5 + c.loop-j.j + 1 = omega arith in rw (e, f, word_back a.fs.now (5 * a.i + c.loop-j.j) c.x-1.given, word_back a.fs.now (5 * a.i + 5 + c.loop-j.j) c.y-1.given) (c.loop-j.invariant ∙ above_step (5 * a.i + c.loop-j.j) (5 * a.i + 5) (5 * a.i + 5 + c.loop-j.j) (5 * a.i + 5 + 5) a.fs.now a.fs.now (omega arith) (omega arith) (omega arith) (omega arith)) in h1) ∙ rw c.if-x-y.true)

pub returns-then-y-x : goal.returns-then-y-x
returns-then-y-x c = sym ((let h2 : (let a = c.args in let x = to_z w32 (of_z w32 (get_or a.fs.now (5 * a.i + c.loop-j.j) (pos 0))) in let y = to_z w32 (of_z w32 (get_or a.fs.now (5 * a.i + 5 + c.loop-j.j) (pos 0))) in above (get_or (facts_in a.fs.now) a.i []) (get_or (facts_in a.fs.now) (a.i + 1) []) ≡ cond (lt_z x y) true (cond (lt_z y x) false (above (slice (5 * a.i + (c.loop-j.j + 1)) (5 * a.i + 5) a.fs.now) (slice (5 * a.i + 5 + (c.loop-j.j + 1)) (5 * a.i + 5 + 5) a.fs.now)))) = let a = c.args in let e : 5 * a.i + (c.loop-j.j + 1) ≡ 5 * a.i + c.loop-j.j + 1 = omega arith in let f : 5 * a.i + 5 + (c.loop-j.j + 1) ≡ 5 * a.i + 5 + c.loop-j.j + 1 = omega arith in rw (e, f, word_back a.fs.now (5 * a.i + c.loop-j.j) c.x-1.given, word_back a.fs.now (5 * a.i + 5 + c.loop-j.j) c.y-1.given) (c.loop-j.invariant ∙ above_step (5 * a.i + c.loop-j.j) (5 * a.i + 5) (5 * a.i + 5 + c.loop-j.j) (5 * a.i + 5 + 5) a.fs.now a.fs.now (omega arith) (omega arith) (omega arith) (omega arith)) in h2) ∙ rw (c.if-x-y.false, c.if-y-x.true))

pub loop-j-preserved : goal.loop-j-preserved
loop-j-preserved c = ((let h3 : (let a = c.args in let x = to_z w32 (of_z w32 (get_or a.fs.now (5 * a.i + c.loop-j.j) (pos 0))) in let y = to_z w32 (of_z w32 (get_or a.fs.now (5 * a.i + 5 + c.loop-j.j) (pos 0))) in above (get_or (facts_in a.fs.now) a.i []) (get_or (facts_in a.fs.now) (a.i + 1) []) ≡ cond (lt_z x y) true (cond (lt_z y x) false (above (slice (5 * a.i + (c.loop-j.j + 1)) (5 * a.i + 5) a.fs.now) (slice (5 * a.i + 5 + (c.loop-j.j + 1)) (5 * a.i + 5 + 5) a.fs.now)))) = let a = c.args in let e : 5 * a.i + (c.loop-j.j + 1) ≡ 5 * a.i + c.loop-j.j + 1 = omega arith in let f : 5 * a.i + 5 + (c.loop-j.j + 1) ≡ 5 * a.i + 5 + c.loop-j.j + 1 = omega arith in rw (e, f, word_back a.fs.now (5 * a.i + c.loop-j.j) c.x-1.given, word_back a.fs.now (5 * a.i + 5 + c.loop-j.j) c.y-1.given) (c.loop-j.invariant ∙ above_step (5 * a.i + c.loop-j.j) (5 * a.i + 5) (5 * a.i + 5 + c.loop-j.j) (5 * a.i + 5 + 5) a.fs.now a.fs.now (omega arith) (omega arith) (omega arith) (omega arith)) in h3) ∙ rw (c.if-x-y.false, c.if-y-x.false))
