-- The loop holds that the columns passed become those of the other row.
use Rattle.search_symmetry.specs.Steps.{TurnsInto}
use Rattle.search_symmetry.proofs.becomes.Given as goal

abbrev pub invariant-loop-c : goal.invariant-loop-c
invariant-loop-c l = TurnsInto l.p l.a l.b l.i l.j l.c
