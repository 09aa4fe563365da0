-- After i turns the first i words are put.
use lib.ListN.{take}
use Rattle.text_buffer.specs.Puts.{Put}
use Rattle.test_results.specs.Results.{words_bytes}
use Rattle.test_results.proofs.put_words.Given as goal

abbrev pub invariant-loop-i : goal.invariant-loop-i
invariant-loop-i l = Put l.initial.out l.out l.at (words_bytes l.unit 0 (take l.i l.s)) l.n
