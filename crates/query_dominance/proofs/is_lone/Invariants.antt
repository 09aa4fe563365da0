use mathlib.Core.Bool.{true≢false}
use borrow.Author.Count.{below_more}
use mathlib.Core.Path.{sym}
use Prim.Native.Nat.{ℕ, ◌≤◌, ◌<◌, ◌-◌}
use native.Mathlib.Omega.{arith}
use Rattle.query_layout.specs.Layout.{block_width}
use Rattle.query_dominance.specs.Dominance.{OtherTerm}
use borrow.Author.Rules.{rules}
use Rattle.query_dominance.specs.Dominance.{OtherTerm}
use borrow.Author.Rules.{rules}
use Rattle.query_dominance.proofs.is_lone.Given as goal

abbrev pub invariant-loop-k : goal.invariant-loop-k
invariant-loop-k state = ((l : ℕ) → l < state.k → OtherTerm state.blk state.at l)
