use Rattle.std.proofs.Common.{◌∙◌}
use Rattle.search_slots.specs.Slots.{word_less}
use Rattle.search_slots.proofs.Words.{read_word, set-without}
use Rattle.search_slots.proofs.drop.Goals as goal

pub returns-then-w-set : goal.returns-then-w-set
returns-then-w-set c = set-without _ _ _ c.if-w-set.true (c.less.ensures ∙ (λ i. word_less (read_word _ _ c.if-w-set.true i) (c.bit.ensures i)))
