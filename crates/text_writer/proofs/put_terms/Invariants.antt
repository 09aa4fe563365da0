-- After i turns the first i terms are put.
use lib.ListN.{take}
use mathlib.Core.List.{map}
use Rattle.text_buffer.specs.Puts.{Put}
use Rattle.text_buffer.specs.Words.{bytes}
use Rattle.text_writer.specs.Texts.{term_bytes, separated}
use Rattle.text_writer.proofs.put_terms.Given as goal

abbrev pub invariant-loop-i : goal.invariant-loop-i
invariant-loop-i l = Put l.initial.out l.out l.initial.n (separated (bytes ",") (map term_bytes (take l.i l.terms))) l.n
