-- The library's own table in plain numbers is the ten relations.
use mathlib.Core.Path.{◌≡◌, refl, sym, ap, ◌∙◌}
use mathlib.Core.Bool.{Bool, true}
use mathlib.Core.List.{List, [], ◌∷◌, ◌++◌}
use Prim.Native.Nat.{ℕ, zero, suc, ◌+◌, ◌-◌, ◌*◌, ◌<◌, ◌≤◌, min}
use native.Mathlib.Omega.{arith}
use borrow.Author.Tests.{eqb-true}
use lib.Dec.{eqb}
use lib.ListN.{get_or, drop, length, replicate}
use lib.Seq.{get_or-drop}
use Rattle.sheet_format.specs.Limits.{most_columns, relation_number_count, table_number_count}
use Rattle.sheet_format.specs.Table.{Relation, Table, unknown, table_in, ten_relations, ten}
use Rattle.sheet_format.specs.Line.{all, gather}
use Rattle.sheet_format.proofs.Lists.{both}

-- the ten relations' numbers, and 0 up to the table's end
abbrev own : List ℕ
own = gather (λ (r : Relation). r.columns ∷ r.key ∷ r.parent ∷ []) ten_relations ++ replicate (table_number_count - 30) 0

zeros : (l : List ℕ) → all (λ n. eqb n 0) l ≡ true → (j : ℕ) → get_or l j 0 ≡ 0
zeros [] e j = refl
zeros (n ∷ l) e zero = eqb-true n 0 (both (eqb n 0) _ e).0
zeros (n ∷ l) e (suc j) = zeros l (both (eqb n 0) _ e).1 j

past : (i : ℕ) → 30 ≤ i → get_or own i 0 ≡ 0
past i le = ap (λ k. get_or own k 0) (let e : i ≡ 30 + (i - 30) = omega arith in e) ∙ sym (get_or-drop 30 own (i - 30) 0) ∙ zeros (drop 30 own) refl (i - 30)

at_place : (n : ℕ) → table_in own n ≡ ten n
at_place zero = refl
at_place (suc zero) = refl
at_place (suc (suc zero)) = refl
at_place (suc (suc (suc zero))) = refl
at_place (suc (suc (suc (suc zero)))) = refl
at_place (suc (suc (suc (suc (suc zero))))) = refl
at_place (suc (suc (suc (suc (suc (suc zero)))))) = refl
at_place (suc (suc (suc (suc (suc (suc (suc zero))))))) = refl
at_place (suc (suc (suc (suc (suc (suc (suc (suc zero)))))))) = refl
at_place (suc (suc (suc (suc (suc (suc (suc (suc (suc zero))))))))) = refl
at_place (suc (suc (suc (suc (suc (suc (suc (suc (suc (suc n)))))))))) = λ i. record {
  columns = min most_columns (past (m * relation_number_count) (omega arith) i);
  key = min most_columns (past (m * relation_number_count + 1) (omega arith) i);
  parent = past (m * relation_number_count + 2) (omega arith) i;
}
  where
    m : ℕ
    m = suc (suc (suc (suc (suc (suc (suc (suc (suc (suc n)))))))))

pub own-ten : table_in own ≡ ten
own-ten = λ i n. at_place n i
