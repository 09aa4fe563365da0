-- The sign, then the digits.
use mir.Syntax.{w32}
use mir.ValLaws.{to_z-of_z}
use Rattle.text_buffer.proofs.Laws.{followed}
use Rattle.test_results.proofs.put_word.Goals as goal

pub returns : goal.returns
returns c = let f = to_z-of_z w32 _ c.ranges.w in
    let e = c.unsigned_abs.ensures.value in
    let s = rw f at c.put_sign-n.ensures in
    let d = rw (c.from.ensures, e, f) at c.put_decimal.ensures in
    followed s d
