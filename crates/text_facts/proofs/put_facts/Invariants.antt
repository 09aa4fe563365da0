-- The facts so far are put.
use lib.ListN.{take}
use mathlib.Core.List.{map}
use Rattle.text_buffer.specs.Puts.{Put}
use Rattle.text_buffer.specs.Words.{bytes}
use Rattle.sheet_format.specs.Table.{table_in}
use Rattle.text_writer.specs.Texts.{separated, fact_bytes}
use Rattle.text_facts.proofs.put_facts.Given as goal

abbrev pub invariant-loop-i : goal.invariant-loop-i
invariant-loop-i l = Put l.initial.out l.out l.initial.n (separated (bytes ", ") (map (fact_bytes (table_in l.table)) (take l.i l.shown))) l.n
