-- The numbers that are put for a table's relations give its table back.
use mathlib.Core.Path.{◌≡◌, refl, sym, ap, ◌∙◌}
use mathlib.Core.Bool.{Bool, true, false}
use mathlib.Core.List.{List}
use Prim.Native.Nat.{ℕ, zero, suc, ◌+◌, ◌*◌, ◌<◌, ◌≤◌, min}
use native.Mathlib.Omega.{arith}
use borrow.Author.Tests.{ltb-true, ltb-false}
use lib.Dec.{ltb}
use lib.ListN.{length, get_or, get_or-eq_default}
use Rattle.sheet_format.specs.Limits.{most_columns, most_relations}
use Rattle.sheet_format.specs.Table.{Relation, unknown, table_by, table_in}
use Rattle.sheet_format.specs.Answers.{Refusal}
use Rattle.sheet_table.specs.Tables.{relations_of, table_of}
use Rattle.sheet_table.specs.Numbers.{relation_numbers, table_numbers, ReadLines}
use Rattle.sheet_table.specs.Loads.{Loads}
use Rattle.sheet_table.proofs.Numbers.{numbers-length, numbers-at}
use Rattle.sheet_table.proofs.Sound.{RightTable, table-right, table-few}

-- columns that are cut are the relation's own
record Narrow (r : Relation) : Type 0 where
  columns : min most_columns r.columns ≡ r.columns
  key : min most_columns r.key ≡ r.key

nothing : (j : ℕ) → get_or (relation_numbers unknown) j 0 ≡ 0
nothing zero = refl
nothing (suc zero) = refl
nothing (suc (suc zero)) = refl
nothing (suc (suc (suc j))) = refl

module _ (rs : List Relation) (right : RightTable rs) (few : length rs ≤ most_relations) where
  abbrev at : ℕ → Relation
  at n = get_or rs n unknown

  narrow : (n : ℕ) → Narrow (at n)
  narrow n = go (ltb n (length rs)) refl
    where
      go : (b : Bool) → ltb n (length rs) ≡ b → Narrow (at n)
      go true e =
          let q = right.each n (ltb-true n (length rs) e) in
          let f = q.few in
          let k = q.key in
          record { columns = omega arith; key = omega arith }
      go false e = rw (get_or-eq_default rs unknown (ltb-false n (length rs) e)) (record { columns = refl; key = refl })

  -- number j of the relation at place n, also past the last
  number-at : (n j : ℕ) → j < 3 → get_or (table_numbers rs) (n * 3 + j) 0 ≡ get_or (relation_numbers (at n)) j 0
  number-at n j lt = go (ltb n most_relations) refl
    where
      go : (b : Bool) → ltb n most_relations ≡ b → get_or (table_numbers rs) (n * 3 + j) 0 ≡ get_or (relation_numbers (at n)) j 0
      go true e = numbers-at most_relations n j rs (ltb-true n most_relations e) lt
      go false e =
          let h = ltb-false n most_relations e in
          let l = numbers-length most_relations rs in
          get_or-eq_default (table_numbers rs) 0 (omega arith)
          ∙ sym (ap (λ r. get_or (relation_numbers r) j 0) (get_or-eq_default rs unknown (omega arith)) ∙ nothing j)

  at_place : (n : ℕ) → table_in (table_numbers rs) n ≡ table_by rs n
  at_place n =
      let q = narrow n in
      let c = ap (λ i. min most_columns (get_or (table_numbers rs) i 0)) (let e : n * 3 ≡ n * 3 + 0 = omega arith in e) ∙ ap (min most_columns) (number-at n 0 (omega arith)) ∙ q.columns in
      let k = ap (min most_columns) (number-at n 1 (omega arith)) ∙ q.key in
      let p = number-at n 2 (omega arith) in
      λ i. record { columns = c i; key = k i; parent = p i }

  numbers-table : table_in (table_numbers rs) ≡ table_by rs
  numbers-table = λ i n. at_place n i

-- what was read, with the numbers that were put
pub loaded : (s ns : List ℕ) (r : Refusal) → ReadLines s ns r → Loads s (record { number = r.number; line = r.line; numbers = ns })
unfolding table_of
loaded s ns r h =
    let e = h.answer in
    record {
      number = ap (λ x. x.number) e;
      line = ap (λ x. x.line) e;
      table = λ y. ap table_in (h.numbers y) ∙ numbers-table (relations_of s) (table-right s y) (table-few s y);
    }

-- and with any others where it is sent back
pub not-loaded : (s ns us : List ℕ) (r : Refusal) → ReadLines s ns r → (r.number ≡ 0 → ⊥) → Loads s (record { number = r.number; line = r.line; numbers = us })
not-loaded s ns us r h n =
    let e = h.answer in
    record { number = ap (λ x. x.number) e; line = ap (λ x. x.line) e; table = λ y. absurd (n (ap (λ x. x.number) e ∙ y)) }
