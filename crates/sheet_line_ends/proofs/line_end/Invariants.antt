use mathlib.Core.Path.{◌≡◌}
use Prim.Native.Nat.{◌-◌, ◌+◌}
use native.Mathlib.Omega.{arith}
use borrow.Author.Rules.{rules}
use lib.ListN.{length, drop}
use Rattle.sheet_line_ends.specs.Before.{before_end}
use Rattle.sheet_line_ends.proofs.Laws.{before_here, before-later, before-end}
use Rattle.sheet_line_ends.proofs.line_end.Given as goal

abbrev pub invariant-loop-e : goal.invariant-loop-e
invariant-loop-e l = l.e + before_end (drop l.e l.s) ≡ l.at + before_end (drop l.at l.s)
