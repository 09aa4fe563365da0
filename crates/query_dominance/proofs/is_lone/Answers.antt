use mathlib.Core.Bool.{true≢false}
use borrow.Author.Count.{below_more}
use mathlib.Core.Path.{sym}
use Prim.Native.Nat.{ℕ, ◌≤◌, ◌<◌, ◌-◌}
use native.Mathlib.Omega.{arith}
use Rattle.query_layout.specs.Layout.{block_width}
use Rattle.query_dominance.specs.Dominance.{OtherTerm}
use borrow.Author.Rules.{rules}
use Rattle.query_dominance.specs.Dominance.{OtherTerm}
use borrow.Author.Rules.{rules}
use Rattle.query_dominance.proofs.is_lone.Goals as goal

pub loop-k-preserved : goal.loop-k-preserved
loop-k-preserved c = let l = c.loop-k in
    let a = c.args in
    below_more (OtherTerm a.blk.now a.at) l.k l.invariant (c.stands_at.ensures c.if-stands_at.false)
