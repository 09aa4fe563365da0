use Rattle.search_keys.specs.Keys.{SettledTo}
use Rattle.search_keys.proofs.clashing.Given as goal

abbrev pub invariant-loop-k : goal.invariant-loop-k
invariant-loop-k l = SettledTo l.p l.facts l.i l.k
