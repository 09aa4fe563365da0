use Rattle.search_keys.specs.Clashes.{OneIn}
use Rattle.search_keys.proofs.are_one.Given as goal

abbrev pub invariant-loop-c : goal.invariant-loop-c
invariant-loop-c l = OneIn l.p l.ws l.i l.k l.c
