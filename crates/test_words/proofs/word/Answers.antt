-- No byte, a number below 0, and any other, which a word may not hold.
use mathlib.Core.Path.{◌∙◌}
use native.Mathlib.Omega.{arith}
use mir.Syntax.{w32}
use mir.ValLaws.{to_z-of_z}
use Rattle.test_words.proofs.Read.{word_none, word_below, word-above, narrowed}
use Rattle.test_words.proofs.word.Goals as goal

pub returns-in-empty : goal.returns-in-empty
returns-in-empty c = word_none c.args.s.now (omega arith)

pub returns-in-45 : goal.returns-in-45
returns-in-45 c = let e = c.number.ensures in
    to_z-of_z w32 _ (record { sfits = c.below.type_inv }) ∙ c.below.ensures ∙ (rw e (word_below c.args.s.now (omega arith) (omega arith)))

pub returns-in_default : goal.returns-in_default
returns-in_default c = let e = c.number-in_default.ensures in
    to_z-of_z w32 _ (record { sfits = c.unwrap_or.type_inv }) ∙ c.unwrap_or.ensures ∙ narrowed c.try_from.result c.number-in_default.result c.try_from.ensures
    ∙ (rw e (word-above c.args.s.now (omega arith) (λ h. absurd (omega arith))))
