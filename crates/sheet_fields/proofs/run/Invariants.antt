use mathlib.Core.Path.{subst, ◌≡◌, sym, ap, ◌∙◌}
use Prim.Native.Nat.{◌^◌, ◌≤◌, ◌-◌, ◌+◌}
use native.Mathlib.Omega.{arith}
use lib.ListN.{take, drop}
use borrow.Author.Rules.{rules}
use Rattle.sheet_format.specs.Field.{run}
use Rattle.sheet_format.specs.declared.Digits.TheVariants.{Blank}
use Rattle.sheet_fields.specs.Below.{DigitsBelow}
use Rattle.sheet_fields.proofs.Laws.{run-start, run_step, run-done, below_next, below-eight}
use Rattle.sheet_fields.proofs.run.Given as goal

abbrev pub invariant-loop-i : goal.invariant-loop-i
invariant-loop-i l = (l.i ≤ 8) × DigitsBelow (10 ^ l.i) l.d × (run l.d (take (8 - l.i) (drop (l.at + l.i) l.s)) ≡ run Blank (take 8 (drop l.at l.s)))

abbrev pub decreases-loop-i : goal.decreases-loop-i
decreases-loop-i l = 8 - l.i
