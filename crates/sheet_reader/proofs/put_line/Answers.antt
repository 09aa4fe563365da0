use mathlib.Core.Path.{◌≡◌}
use Prim.Native.Nat.{◌≤◌, ◌-◌, ◌+◌, ◌*◌}
use native.Mathlib.Omega.{arith}
use borrow.Author.Rules.{rules}
use lib.ListN.{length, take}
use Rattle.list_laws.proofs.Words.{word_back}
use Rattle.list_laws.specs.Wrote.{Wrote}
use Rattle.list_laws.proofs.Laws.{copied_none, copied_more, copied_all}
use lib.IntN.{pos}
use Rattle.sheet_reader.proofs.put_line.Goals as goal

pub loop-j-preserved : goal.loop-j-preserved
loop-j-preserved c = let l = c.loop-j in
    let a = c.args in
    let h = l.invariant.2.same in
    (omega arith, l.invariant.1, rw (word_back a.l l.j c.ws-1.given) (copied_more a.ws.now l.ws a.l (pos 0) (a.n * 7) l.j (omega arith) (omega arith) l.invariant.2))
