-- `facts::all_in_range` meets its contract. The loop's invariant: the words from the start are in range as those from here on are.
use mathlib.Core.Path.{◌≡◌}
use lib.Seq.{slice}
use Rattle.sheet_format.specs.Line.{all}
use Rattle.query_facts.specs.Parts.{in_range}
use Rattle.query_facts.proofs.all_in_range.Given as goal

abbrev pub invariant-loop-i : goal.invariant-loop-i
invariant-loop-i l = all (in_range l.end) (slice l.from l.to l.fs) ≡ all (in_range l.end) (slice l.i l.to l.fs)
