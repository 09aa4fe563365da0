use Rattle.std.proofs.Common.{rules, arith}
use Rattle.test_words.proofs.Found.{found_first, found-second, found-later, found_none}
use Rattle.test_words.proofs.find.Goals as goal
use Rattle.test_words.proofs.find.Goals.{then-x-a-via-then-x-a, then-x-a-via-else-x-a+then-x-b}

pub returns-then-x-a : goal.returns-then-x-a
returns-then-x-a c = let a = c.args in
    let l = c.loop-i in
    let h = l.invariant.2 in
    elim c.then-x-a.branch [
      | then-x-a-via-then-x-a w ↦ let e = found_first a.a a.b a.s.now l.i (omega arith) w.if-x-a.true in (search rules, search rules, omega arith)
      | then-x-a-via-else-x-a+then-x-b w ↦ let e = found-second a.a a.b a.s.now l.i (omega arith) w.if-x-a.false w.if-x-b.true in (search rules, search rules, omega arith)
    ]

pub loop-i-preserved : goal.loop-i-preserved
loop-i-preserved c = let a = c.args in
    let l = c.loop-i in
    let h = l.invariant.2 in
    let e = found-later a.a a.b a.s.now l.i (omega arith) c.if-x-a.false c.if-x-b.false in
    (search rules, search rules, omega arith)

pub returns : goal.returns
returns c = let a = c.args in
    let l = c.loop-i in
    let h = l.invariant.2 in
    let e = found_none a.a a.b a.s.now l.i (omega arith) in
    (search rules, search rules, omega arith)
