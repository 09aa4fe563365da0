-- The bytes so far are put, without their blanks.
use lib.ListN.{take}
use Rattle.text_buffer.specs.Puts.{Put}
use Rattle.text_writer.specs.Texts.{without_blanks}
use Rattle.text_writer.proofs.put_plain.Given as goal

abbrev pub invariant-loop-b : goal.invariant-loop-b
invariant-loop-b l = Put l.initial.out l.out l.at (without_blanks (take l.b-index l.s)) l.n
