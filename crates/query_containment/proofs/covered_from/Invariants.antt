use Rattle.std.proofs.Common.{◌<◌, min, IfSome}
use Rattle.sheet_format.specs.Limits.{most_atoms}
use Rattle.query_containment.specs.Containment.{Contained}
use Rattle.query_containment.proofs.covered_from.Given as goal

abbrev pub invariant-loop-k : goal.invariant-loop-k
invariant-loop-k l = IfSome l.first (λ k. (k < 4) × Contained l.q (min l.qn most_atoms) l.l (min l.ln most_atoms) l.facts l.row k)
