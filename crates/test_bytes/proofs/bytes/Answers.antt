use mathlib.Core.Path.{◌≡◌}
use Prim.Native.Nat.{◌-◌, ◌+◌}
use native.Mathlib.Omega.{arith}
use lib.ListN.{length, get_or, take, drop, length-drop}
use lib.Seq.{take_all}
use Rattle.test_bytes.specs.Bytes.{extent, meant_by, times_of}
use Rattle.test_bytes.proofs.Meant.{half_none, half_more, half_all, put-within, put_front}
use Rattle.test_bytes.proofs.bytes.Goals as goal

pub loop-i-init : goal.loop-i-init
loop-i-init c = half_none c.args.text.now c.args.out.now

pub loop-i-preserved : goal.loop-i-preserved
loop-i-preserved c = let l = c.loop-i in
    let s = c.args.text.now in
    let w : c.width-i.result ≡ extent (get_or s l.i 0) + 1 = c.width-i.ensures.1 in
    let t : c.times.result ≡ times_of (get_or s l.i 0) = c.times.ensures in
    let all : take (length s - (l.i + 1)) (drop (l.i + 1) s) ≡ drop (l.i + 1) s = take_all (length s - (l.i + 1)) (drop (l.i + 1) s) (rw (length-drop (l.i + 1) s) (omega arith)) in
    let b : c.byte.result ≡ meant_by (get_or s l.i 0) (drop (l.i + 1) s) = rw all at c.byte.ensures in
    rw w (half_more l.i (omega arith) l.invariant (rw (t, b) at c.fill-n.ensures))

pub returns-clause-within : goal.returns-clause-within
returns-clause-within c = put-within (half_all (omega arith) c.loop-i.invariant)

pub returns-clause-put : goal.returns-clause-put
returns-clause-put c = half_all (omega arith) c.loop-i.invariant

pub returns-clause-front : goal.returns-clause-front
returns-clause-front c = put_front _ _ _ _ (half_all (omega arith) c.loop-i.invariant)
