-- The loop holds that the columns left exchange the value as all do.
use Rattle.std.proofs.Common.{◌≡◌, drop}
use Rattle.search_symmetry.specs.Symmetry.{exchanged}
use Rattle.search_symmetry.proofs.turn.Given as goal

abbrev pub invariant-loop-c : goal.invariant-loop-c
invariant-loop-c l = exchanged (drop l.c l.a) (drop l.c l.b) l.v ≡ exchanged l.a l.b l.v
