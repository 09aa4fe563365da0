use Rattle.std.proofs.Common.{ℕ, ◌<◌, ◌/◌, length}
use Rattle.search_keys.specs.Keys.{SettledTo}
use Rattle.search_keys.proofs.first_clash.Given as goal

abbrev pub invariant-loop-left : goal.invariant-loop-left
invariant-loop-left l = (i : ℕ) → i < l.left → SettledTo l.p l.facts i (length l.facts / 5)
