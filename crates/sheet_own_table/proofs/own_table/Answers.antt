use mathlib.Core.Path.{◌≡◌, refl}
use Prim.Native.Nat.{◌≤◌, ◌-◌}
use native.Mathlib.Omega.{arith}
use lib.ListN.{length, take, replicate}
use borrow.Author.Rules.{rules}
use Rattle.list_laws.specs.Wrote.{Wrote}
use Rattle.list_laws.proofs.Laws.{wrote_none, copied_next}
use Rattle.sheet_own_table.specs.Own.{own_bytes, own_table_bytes}
use Rattle.sheet_own_table.proofs.Bytes.{own-length, own-written}
use Rattle.sheet_own_table.proofs.own_table.Goals as goal

pub loop-i-preserved : goal.loop-i-preserved
loop-i-preserved c = let l = c.loop-i in
    let h = l.invariant.2.same in
    let k = l.invariant.1 in
    let n = own-length in
    (omega arith, l.invariant.1, rw c.own_byte.ensures (copied_next (replicate own_table_bytes 0) l.bytes own_bytes 0 0 l.i l.i (omega arith) (omega arith) l.invariant.2))

pub returns : goal.returns
returns c = let l = c.loop-i in
    own-written (replicate own_table_bytes 0) l.bytes l.i l.invariant.1 (omega arith) l.invariant.2
