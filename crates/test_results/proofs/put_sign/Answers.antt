-- A byte before a word below 0, and nothing before any other.
use mathlib.Core.Path.{sym}
use mir.Syntax.{w32}
use mir.ValLaws.{to_z-of_z}
use Rattle.text_buffer.proofs.Laws.{nothing, said}
use Rattle.test_results.proofs.Spelled.{sign_below, sign_above}
use Rattle.test_results.proofs.put_sign.Goals as goal

pub returns-then-w-lt0 : goal.returns-then-w-lt0
returns-then-w-lt0 c = said (sym (sign_below c.args.w (rw (to_z-of_z w32 _ c.ranges.w) at c.if-w-lt0.true))) c.put_byte.ensures

pub returns : goal.returns
returns c = said (sym (sign_above c.args.w (rw (to_z-of_z w32 _ c.ranges.w) at c.if-w-lt0.false))) (nothing c.args.out.now c.args.at)
