use native.Mathlib.Omega.{arith}
use Rattle.query_facts.proofs.Laws.{numbers-read}
use Rattle.query_facts.proofs.numbers.Goals as goal

pub returns : goal.returns
returns c = let l = c.loop-i in
    let w = c.loop-i-test.false in
    record { fact_numbers = λ t r h. numbers-read t c.args.fs.now l.ns l.i (omega arith) l.invariant r; ns_unchanged = λ few. let room = c.if-ns-fs.false in absurd (omega arith) }
