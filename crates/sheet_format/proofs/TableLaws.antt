-- Laws of tables of relations.
use mathlib.Core.Path.{◌≡◌, refl}
use mathlib.Core.List.{List, [], ◌∷◌}
use Prim.Native.Nat.{ℕ, zero, suc, ◌≤◌}
use native.Mathlib.Omega.{arith}
use lib.IntN.{ℤ}
use lib.ListN.{get_or, length}
use Rattle.sheet_format.specs.Limits.{most_columns}
use Rattle.sheet_format.specs.Table.{Table, unknown, columns_of, relations_by}

-- a relation's numbers are those that the table was made of
pub numbers_of_relation : (ns ks ps : List ℕ) (n : ℕ) → length ns ≡ length ks → length ns ≡ length ps
    → ((get_or (relations_by ns ks ps) n unknown).columns ≡ get_or ns n 0) × ((get_or (relations_by ns ks ps) n unknown).key ≡ get_or ks n 0) × ((get_or (relations_by ns ks ps) n unknown).parent ≡ get_or ps n 0)
numbers_of_relation [] [] [] n e f = (refl, refl, refl)
numbers_of_relation [] [] (p ∷ ps) n e f = absurd (omega arith)
numbers_of_relation [] (k ∷ ks) ps n e f = absurd (omega arith)
numbers_of_relation (c ∷ ns) [] ps n e f = absurd (omega arith)
numbers_of_relation (c ∷ ns) (k ∷ ks) [] n e f = absurd (omega arith)
numbers_of_relation (c ∷ ns) (k ∷ ks) (p ∷ ps) zero e f = (refl, refl, refl)
numbers_of_relation (c ∷ ns) (k ∷ ks) (p ∷ ps) (suc n) e f = numbers_of_relation ns ks ps n (omega arith) (omega arith)

-- no relation has more columns than a fact has values
abbrev pub Narrow : Table → Type 0
Narrow t = (z : ℤ) → columns_of t z ≤ most_columns
