use mathlib.Core.Path.{ap}
use native.Mathlib.Omega.{arith}
use mir.Syntax.{w32}
use mir.ValLaws.{to_z-of_z}
use Rattle.test_words.proofs.Read.{going_none, going_more, going_all}
use Rattle.test_words.proofs.words.Goals as goal

pub loop-i-init : goal.loop-i-init
loop-i-init c = going_none c.args.unit c.args.text.now c.args.out.now

pub loop-i-preserved : goal.loop-i-preserved
loop-i-preserved c = let l = c.loop-i in
    going_more (omega arith) l.invariant c.find-e.ensures.2 c.word.ensures (rw (to_z-of_z w32 _ (record { sfits = c.word.type_inv })) at c.store.ensures) c.close-n.ensures

pub returns : goal.returns
returns c = let l = c.loop-i in
    let e = going_all (omega arith) l.invariant in
    let k = l.invariant.kept in
    let n = ap (λ r. r.next) e in
    (omega arith, ap (λ r. r.words) e, omega arith)
