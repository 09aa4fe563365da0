use mathlib.Core.Path.{◌≡◌}
use Prim.Native.Nat.{◌≤◌, ◌-◌, ◌+◌}
use native.Mathlib.Omega.{arith}
use borrow.Author.Rules.{rules}
use lib.ListN.{length, take}
use Rattle.list_laws.specs.Wrote.{Wrote}
use Rattle.list_laws.proofs.Laws.{copied_none, copied_more, copied_all}
use Rattle.sheet_writer.proofs.put_eight.Goals as goal

pub loop-j-preserved : goal.loop-j-preserved
loop-j-preserved c = let l = c.loop-j in
    let a = c.args in
    let h = l.invariant.2.same in
    (omega arith, l.invariant.1, copied_more a.out.now l.out a.b 0 a.at l.j (omega arith) (omega arith) l.invariant.2)
