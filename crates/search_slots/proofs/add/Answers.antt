use native.Mathlib.Omega.{arith}
use lib.Bits.{bit_or}
use Rattle.search_slots.proofs.Words.{read_word, set_with, past_with}
use Rattle.search_slots.proofs.add.Goals as goal

pub returns-then-w-set : goal.returns-then-w-set
returns-then-w-set c = set_with _ _ _ c.if-w-set.true (λ i. bit_or (read_word _ _ c.if-w-set.true i) (c.bit.ensures i))

pub returns-else-w-set : goal.returns-else-w-set
returns-else-w-set c = past_with _ _ (omega arith)
