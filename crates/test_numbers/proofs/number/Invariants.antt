-- The number with the bytes that are left makes the whole number.
use Rattle.std.proofs.Common.{◌≡◌, ◌≤◌, min, drop}
use Rattle.test_numbers.specs.Numbers.{largest, value_after, number_of}
use Rattle.test_numbers.proofs.number.Given as goal

abbrev pub invariant-loop-b : goal.invariant-loop-b
invariant-loop-b l = (min (value_after l.n (drop l.b-index l.s)) largest ≡ number_of l.s) × (l.n ≤ largest)
