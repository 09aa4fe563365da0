use Rattle.list_laws.specs.Kept.{Filled}
use Rattle.search_slots.specs.Slots.{full_word, set_word, word_less}
use Rattle.search_slots.proofs.subtract.Given as goal

abbrev pub invariant-loop-w : goal.invariant-loop-w
invariant-loop-w l = Filled full_word l.initial.set l.set 0 l.w (λ v. word_less (set_word l.initial.set v) (set_word l.others v))
