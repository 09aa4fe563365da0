use mathlib.Core.Path.{◌≡◌, subst}
use Prim.Native.Nat.{◌≤◌, ◌<◌}
use native.Mathlib.Omega.{arith}
use Rattle.tableau_layout.specs.Layout.{most_blocks}
use Rattle.sheet_format.specs.Line.{word_lines}
use Rattle.tableau_plan.specs.Parts.{BlockStored, Blocks}
use Rattle.tableau_plan.proofs.Blocks.{begun_more, begun-end, begun_all, begun-out}
use borrow.Author.Tests.{not-true, not-false}
use Rattle.tableau_plan.proofs.put_blocks.Goals as goal

pub returns-then-not-found : goal.returns-then-not-found
returns-then-not-found c = let f = c.block-found in
    let l = c.loop-b in
    let a = c.args in
    (l.invariant.1, λ ok so. begun-end l.p (word_lines a.ws.now) a.lists l.b ok so (l.invariant.2 ok) f.result.atoms f.result.numbers f.result.some (not-true _ c.if-not-found.true) (f.ensures ok.0 ok.1))

pub returns-then-at-ge-MOST_BLOCKS : goal.returns-then-at-ge-MOST_BLOCKS
returns-then-at-ge-MOST_BLOCKS c = let f = c.block-found in
    let l = c.loop-b in
    let a = c.args in
    let e = c.place-at.ensures in
    (l.invariant.1, λ ok so. begun-out l.p (word_lines a.ws.now) a.lists l.b ok so (l.invariant.2 ok) f.result.some f.result.atoms f.result.numbers (not-false _ c.if-not-found.false) (f.ensures ok.0 ok.1) (subst (λ n. most_blocks ≤ n) e c.if-at-ge-MOST_BLOCKS.true))

pub loop-b-preserved : goal.loop-b-preserved
loop-b-preserved c = let w = c.put_block in
    let f = c.block-found in
    let l = c.loop-b in
    let a = c.args in
    let e = c.place-at.ensures in (
      omega arith,
      w.ensures.long,
      λ ok. begun_more l.p w.new.p (word_lines a.ws.now) a.lists l.b f.result.some f.result.atoms f.result.numbers (subst (λ n. n < most_blocks) e c.if-at-ge-MOST_BLOCKS.false) l.invariant.1
          (subst (λ n. BlockStored l.p w.new.p n f.result.atoms f.result.numbers) e w.ensures) (not-false _ c.if-not-found.false) (f.ensures ok.0 ok.1) (l.invariant.2 ok),
    )

pub returns : goal.returns
returns c = let l = c.loop-b in
    let a = c.args in
    let all : l.b ≡ most_blocks = omega arith in
    (l.invariant.1, λ ok so. subst (Blocks l.p (word_lines a.ws.now)) all (begun_all l.p (word_lines a.ws.now) a.lists l.b ok so (l.invariant.2 ok) (omega arith)))
