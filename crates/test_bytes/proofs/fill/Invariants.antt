-- The byte is put as often as there were turns.
use lib.ListN.{replicate}
use Rattle.text_buffer.specs.Puts.{Put}
use Rattle.test_bytes.proofs.fill.Given as goal

abbrev pub invariant-loop : goal.invariant-loop
invariant-loop l = Put l.initial.out l.out l.at (replicate l.counter l.b) l.n
