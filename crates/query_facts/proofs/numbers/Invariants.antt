-- `facts::numbers` meets its contract. The loop's invariant: the first i words are read.
use mathlib.Core.Path.{◌≡◌}
use mathlib.Core.List.{map}
use lib.ListN.{take}
use Rattle.sheet_format.specs.Line.{natural}
use Rattle.query_facts.proofs.numbers.Given as goal

abbrev pub invariant-loop-i : goal.invariant-loop-i
invariant-loop-i l = take l.i l.ns ≡ map natural (take l.i l.fs)
