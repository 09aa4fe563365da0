use mathlib.Core.Path.{◌≡◌, sym}
use Prim.Native.Nat.{◌+◌}
use native.Mathlib.Omega.{arith}
use lib.ListN.{get_or}
use Rattle.text_buffer.proofs.Laws.{nothing, followed, said}
use Rattle.test_results.specs.Results.{closing}
use Rattle.test_results.proofs.Spelled.{words_more, words-none}
use lib.IntN.{pos}
use mir.Syntax.{w32}
use mir.ValLaws.{to_z-of_z}
use Rattle.test_results.proofs.put_words.Goals as goal

pub loop-i-init : goal.loop-i-init
loop-i-init c = said (sym (words-none c.args.unit c.args.s.now)) (nothing c.args.out.now c.args.at)

pub loop-i-preserved : goal.loop-i-preserved
loop-i-preserved c = let l = c.loop-i in
    let a = c.args in
    let e : c.close.result ≡ closing a.unit (l.i + 1) = c.close.ensures in
    let w = c.put_word-n.ensures in
    let v = rw (to_z-of_z w32 (get_or a.s.now l.i (pos 0)) (record { sfits = c.put_word-arg-in-loop-i-1.given })) at w in
    let b = rw e at c.put_byte-n.ensures in
    said (sym (words_more a.unit l.i a.s.now (omega arith))) (followed l.invariant (followed v b))
