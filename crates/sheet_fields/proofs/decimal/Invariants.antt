use mathlib.Core.List.{append-nil, ◌++◌}
use mathlib.Core.Path.{◌≡◌, sym, ◌∙◌}
use Prim.Native.Nat.{◌≤◌, ◌%◌, ◌+◌}
use native.Mathlib.Omega.{arith}
use lib.ListN.{length-set, take, drop, replicate, length}
use borrow.Author.Rules.{rules}
use Rattle.sheet_fields.proofs.Laws.{first-digit, more-digits, still-blank, written}
use Rattle.sheet_format.specs.Field.{decimal}
use Rattle.sheet_fields.proofs.decimal.Given as goal

abbrev pub invariant-loop-k : goal.invariant-loop-k
invariant-loop-k l = (l.k ≤ 8) × (length l.b ≡ 8) × (take l.k l.b ≡ replicate l.k 32) × (decimal l.k l.neg l.v ++ drop l.k l.b ≡ decimal 8 l.neg l.n)

abbrev pub decreases-loop-k : goal.decreases-loop-k
decreases-loop-k l = l.k
