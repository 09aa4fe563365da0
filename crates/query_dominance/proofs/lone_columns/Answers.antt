use mathlib.Core.Bool.{true, false}
use mathlib.Core.Path.{◌≡◌}
use Prim.Native.Nat.{ℕ, ◌≤◌, ◌<◌, ◌-◌, ◌+◌, ◌*◌}
use native.Mathlib.Omega.{arith}
use lib.ListN.{length, get_or, length-set}
use Rattle.query_dominance.specs.Dominance.{Lone}
use Rattle.query_dominance.proofs.Laws.{lone-more}
use borrow.Author.Rules.{rules}
use Rattle.query_dominance.proofs.lone_columns.Goals as goal

pub loop-c-preserved : goal.loop-c-preserved
loop-c-preserved c = let l = c.loop-c in
    let a = c.args in
    (simp length-set l.invariant.0, lone-more a.blk.now a.j l.c l.free c.is_lone.result (omega arith) l.invariant.1 c.is_lone.ensures)
