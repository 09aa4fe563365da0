-- The columns of a relation.
use mathlib.Core.Path.{◌≡◌}
use Prim.Native.Nat.{ℕ, ◌≤◌}
use native.Mathlib.Omega.{arith}
use lib.IntN.{pos}
use mir.Syntax.{w32}
use mir.Val.{to_z}
use mir.ValLaws.{to_z_pos}
use Rattle.sheet_format.specs.Table.{Table, columns_of, ten}

-- the columns of a relation that has a name
pub named-columns : {n k : ℕ} {t : Table} → t ≡ ten → n ≤ 10 → k ≡ columns_of t (to_z w32 n) → k ≡ columns_of ten (pos n)
named-columns {n} own h e = rw (own, to_z_pos w32 n (omega arith)) at e
