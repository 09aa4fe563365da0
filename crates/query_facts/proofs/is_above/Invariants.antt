-- `facts::is_above` meets its contract. The loop's invariant: the order of the two facts is that of their words from here on.
use mathlib.Core.Path.{◌≡◌}
use mathlib.Core.List.{[]}
use Prim.Native.Nat.{◌+◌}
use lib.ListN.{get_or}
use lib.Seq.{slice}
use Rattle.sheet_format.specs.Cause.{above}
use Rattle.query_meaning.specs.Facts.{facts_in}
use Rattle.query_facts.proofs.is_above.Given as goal

abbrev pub invariant-loop-j : goal.invariant-loop-j
invariant-loop-j l = above (get_or (facts_in l.fs) l.i []) (get_or (facts_in l.fs) (l.i + 1) []) ≡ above (slice (l.at + l.j) (l.at + 5) l.fs) (slice (l.next + l.j) (l.next + 5) l.fs)
