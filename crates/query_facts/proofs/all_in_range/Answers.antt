use mathlib.Core.Path.{◌≡◌, sym, ◌∙◌}
use mathlib.Core.Bool.{false, cond}
use Prim.Native.Nat.{◌+◌}
use lib.IntN.{pos}
use lib.ListN.{get_or}
use lib.Seq.{slice}
use mir.Syntax.{w32}
use mir.Val.{to_z, of_z}
use Rattle.sheet_format.proofs.Slices.{all-step}
use Rattle.list_laws.proofs.Words.{word_back, back}
use Rattle.sheet_format.specs.Line.{all}
use Rattle.query_facts.specs.Parts.{in_range}
use Rattle.query_facts.proofs.all_in_range.Goals as goal

pub returns-then-word-lt0 : goal.returns-then-word-lt0
returns-then-word-lt0 c = sym ((let h1 : (let a = c.args in all (in_range a.end) (slice a.from a.to a.fs.now) ≡ all (in_range (to_z w32 (of_z w32 a.end))) (slice a.from a.to a.fs.now)) = rw (back c.ranges.end) in h1) ∙ (let h2 : (let a = c.args in let p = in_range (to_z w32 (of_z w32 a.end)) in all p (slice a.from a.to a.fs.now) ≡ cond (p (to_z w32 (of_z w32 (get_or a.fs.now c.loop-i.i (pos 0))))) (all p (slice (c.loop-i.i + 1) a.to a.fs.now)) false) = let a = c.args in rw (word_back a.fs.now c.loop-i.i c.word-1.given) (c.loop-i.invariant ∙ all-step (in_range (to_z w32 (of_z w32 a.end))) (pos 0) c.loop-i.i a.to a.fs.now c.loop-i-test.true c.requires.1) in h2) ∙ rw c.if-word-lt0.true)

pub returns-then-end-word : goal.returns-then-end-word
returns-then-end-word c = sym ((let h3 : (let a = c.args in all (in_range a.end) (slice a.from a.to a.fs.now) ≡ all (in_range (to_z w32 (of_z w32 a.end))) (slice a.from a.to a.fs.now)) = rw (back c.ranges.end) in h3) ∙ (let h4 : (let a = c.args in let p = in_range (to_z w32 (of_z w32 a.end)) in all p (slice a.from a.to a.fs.now) ≡ cond (p (to_z w32 (of_z w32 (get_or a.fs.now c.loop-i.i (pos 0))))) (all p (slice (c.loop-i.i + 1) a.to a.fs.now)) false) = let a = c.args in rw (word_back a.fs.now c.loop-i.i c.word-1.given) (c.loop-i.invariant ∙ all-step (in_range (to_z w32 (of_z w32 a.end))) (pos 0) c.loop-i.i a.to a.fs.now c.loop-i-test.true c.requires.1) in h4) ∙ rw (c.if-word-lt0.false, c.if-end-word.true))
