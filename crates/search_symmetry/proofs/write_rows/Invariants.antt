-- The loop holds that the rows passed are written where they go.
use Rattle.search_symmetry.specs.Steps.{WrittenCopies}
use Rattle.search_symmetry.proofs.write_rows.Given as goal

abbrev pub invariant-loop-i : goal.invariant-loop-i
invariant-loop-i l = WrittenCopies l.p l.a l.b l.rows l.to l.i
