use Rattle.list_laws.specs.Kept.{Filled}
use Rattle.search_slots.specs.Slots.{full_word, set_word}
use Rattle.search_slots.proofs.put.Given as goal

abbrev pub invariant-loop-w : goal.invariant-loop-w
invariant-loop-w l = Filled full_word l.initial.set l.set 0 l.w (λ v. set_word l.others v)
