use Rattle.search_slots.specs.Slots.{set_words}
use Rattle.search_slots.proofs.Words.{zeros-empty}
use Rattle.search_slots.proofs.none.Goals as goal

pub returns : goal.returns
returns c = zeros-empty set_words
