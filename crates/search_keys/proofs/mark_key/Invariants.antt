use Rattle.search_keys.specs.Clashes.{Places, KeyMarked}
use Rattle.search_keys.proofs.mark_key.Given as goal

abbrev pub invariant-loop-c : goal.invariant-loop-c
invariant-loop-c l = Places l.p l.i → Places l.p l.k → KeyMarked l.p l.ws l.i l.k l.c l.initial.set l.set
