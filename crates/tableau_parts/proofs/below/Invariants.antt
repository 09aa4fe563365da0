use Rattle.list_laws.specs.Order.{SameBefore}
use mathlib.Core.Path.{◌≡◌}
use Prim.Native.Nat.{◌≤◌}
use lib.ListN.{length}
use Rattle.tableau_parts.proofs.below.Given as goal

abbrev pub invariant-loop-k : goal.invariant-loop-k
invariant-loop-k l = (l.k ≤ 4) × SameBefore l.k l.t l.u × (length l.t ≡ 4) × (length l.u ≡ 4)
