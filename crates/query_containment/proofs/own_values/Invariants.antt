use Rattle.std.proofs.Common.{◌≡◌, ℕ, ◌<◌, length, get_or}
use Rattle.query_layout.specs.Layout.{names}
use Rattle.query_containment.specs.Containment.{OwnValue}
use Rattle.query_containment.proofs.own_values.Given as goal

abbrev pub invariant-loop-x : goal.invariant-loop-x
invariant-loop-x l = (length l.vals ≡ names) × ((z : ℕ) → z < l.x → OwnValue l.q l.row l.k z (get_or l.vals z 0))
