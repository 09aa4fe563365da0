use Rattle.std.proofs.Common.{rules, ◌≡◌}
use Rattle.search_slots.specs.Slots.{set_word}
use Rattle.search_symmetry.proofs.Words.{no_slot}
use Rattle.search_symmetry.proofs.is_word_turned.Goals as goal

pub returns-then-unwrap_or-eq0 : goal.returns-then-unwrap_or-eq0
returns-then-unwrap_or-eq0 c = λ _ k lt same there. absurd (no_slot c.args.set.now c.args.w k found same there) where
  found : set_word c.args.set.now c.args.w ≡ 0
  found = search rules
