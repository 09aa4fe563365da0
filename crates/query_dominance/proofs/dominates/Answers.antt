use mathlib.Core.Bool.{true≢false}
use mathlib.Core.Path.{refl, sym, subst}
use Prim.Native.Nat.{ℕ, ◌≤◌, ◌<◌, ◌-◌, ◌+◌}
use native.Mathlib.Omega.{arith}
use borrow.Author.Count.{below_more}
use borrow.Author.Tests.{not-false}
use lib.ListN.{get_or}
use Rattle.query_layout.specs.Layout.{block_head}
use Rattle.query_dominance.specs.Dominance.{Dominates, AtomDominates}
use Rattle.query_dominance.proofs.Laws.{dominance}
use borrow.Author.Rules.{rules}
use Rattle.query_dominance.specs.Dominance.{Dominates, AtomDominates}
use Rattle.query_dominance.proofs.Laws.{dominance}
use borrow.Author.Rules.{rules}
use Rattle.query_dominance.proofs.dominates.Goals as goal

pub loop-j-preserved : goal.loop-j-preserved
loop-j-preserved c = let l = c.loop-j in
    let a = c.args in
    let y = get_or a.blk.now (block_head + a.p) 0 in
    let d = c.atom_dominates in
    below_more (λ k. AtomDominates a.blk.now a.facts.now k y a.a a.b) l.j l.invariant (d.ensures (not-false d.result c.if-not-atom_dominates.false-raw))

pub returns : goal.returns
returns c = let l = c.loop-j in
    let a = c.args in
    let few = c.few_atoms-few in
    let once = c.is_once in
    let y = get_or a.blk.now (block_head + a.p) 0 in
    λ _.
    subst (λ x. Dominates a.blk.now x a.facts.now a.p a.a a.b) few.ensures
    (dominance a.blk.now a.facts.now few.result a.p y a.a a.b (search rules) (search rules) (search rules) refl (once.ensures (not-false once.result c.if-not-is_once.false-raw))
    (λ j lt. l.invariant j (omega arith)))
