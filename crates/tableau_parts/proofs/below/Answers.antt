use mathlib.Core.Logic.{◌⊎◌, inl, inr}
use borrow.Author.Tests.{lt-ltb, le-ltb}
use lib.Dec.{ltb}
use Rattle.tableau_parts.specs.Walks.{BelowBy}
use Rattle.list_laws.proofs.Order.{less?, agree-sym, agree-all, order, not-below}
use Prim.Native.Nat.{◌≤◌, ◌<◌}
use native.Mathlib.Omega.{arith}
use lib.ListN.{get_or}
use Rattle.tableau_parts.proofs.below.Goals as goal

pub returns-then-t-k : goal.returns-then-t-k
returns-then-t-k c = let l = c.loop-k in
    let a = c.args in
    side (less? (get_or a.t l.k 0) (get_or a.u l.k 0))
  where
    side : (get_or c.args.t c.loop-k.k 0 < get_or c.args.u c.loop-k.k 0) ⊎ (get_or c.args.u c.loop-k.k 0 ≤ get_or c.args.t c.loop-k.k 0)
        → BelowBy (ltb (get_or c.args.t c.loop-k.k 0) (get_or c.args.u c.loop-k.k 0)) c.args.t c.args.u
    side (inl lt) = rw (lt-ltb _ _ lt) (order c.loop-k.k c.args.t c.args.u (omega arith) (omega arith) c.loop-k.invariant.1 lt)
    side (inr le) =
        rw (le-ltb _ _ le)
        (not-below c.args.t c.args.u (inr (order c.loop-k.k c.args.u c.args.t (omega arith) (omega arith) (agree-sym c.loop-k.invariant.1) (let ne = c.if-t-k.true in omega arith))))

pub returns : goal.returns
returns c = not-below c.args.t c.args.u (inl (agree-all c.loop-k.k c.args.t c.args.u (omega arith) (omega arith) c.loop-k.invariant.1))
