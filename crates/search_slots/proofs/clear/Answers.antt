use Rattle.std.proofs.Common.{sym, subst}
use Rattle.search_slots.specs.Slots.{EmptySet}
use Rattle.search_slots.proofs.Words.{zeros-empty}
use Rattle.search_slots.proofs.clear.Goals as goal

pub returns : goal.returns
returns c = subst (EmptySet _) (sym (c.fill.ensures.after (λ y e. e))) (zeros-empty _)
