-- The tables that a text can name: those of bytes that are not refused and that leave the ten as they are, and the library's own.
use mathlib.Core.Path.{◌≡◌, refl, ap, ◌∙◌, subst}
use mathlib.Core.List.{List}
use Prim.Native.Nat.{ℕ, zero, suc, ◌*◌, ◌≤◌}
use native.Mathlib.Omega.{arith}
use lib.IntN.{pos}
use lib.ListN.{length, get_or-eq_default}
use Rattle.sheet_format.specs.Limits.{field_end}
use Rattle.sheet_format.specs.Table.{relation, columns_of, table_in, ten}
use Rattle.sheet_terms.proofs.Laws.{columns-most}
use Rattle.sheet_table.specs.Tables.{table_refusal, table_of, relations_of}
use Rattle.sheet_table.specs.Numbers.{table_numbers}
use Rattle.sheet_table.proofs.Numbers.{numbers-length}
use Rattle.sheet_table.proofs.Loads.{loaded}
use Rattle.sheet_own_table.specs.Own.{own_bytes}
use Rattle.sheet_own_table.proofs.Means.{own-passes, own_means}
use Rattle.text_laws.specs.Named.{Named}

-- plain numbers give no relation behind their end
far-columns : (ns : List ℕ) → length ns ≡ 96 → (n : ℕ) → field_end ≤ n → columns_of (table_in ns) (pos n) ≡ 0
unfolding columns_of relation
far-columns ns e zero h = refl
far-columns ns e (suc n) h = rw (get_or-eq_default ns 0 {n = n * 3} (omega arith))

pub named_in : (ns : List ℕ) → length ns ≡ 96 → ((n : ℕ) → n ≤ 10 → columns_of (table_in ns) (pos n) ≡ columns_of ten (pos n)) → Named (table_in ns)
named_in ns e own = record { own = own; short = far-columns ns e; narrow = columns-most ns }

pub named_by : (tb : List ℕ) → (table_refusal tb).number ≡ 0 → ((n : ℕ) → n ≤ 10 → columns_of (table_of tb) (pos n) ≡ columns_of ten (pos n)) → Named (table_of tb)
named_by tb z own =
    let ns = table_numbers (relations_of tb) in
    let e : table_in ns ≡ table_of tb = (loaded tb ns (table_refusal tb) (record { answer = refl; numbers = λ y. refl })).table z in
    subst Named e (named_in ns (numbers-length 32 (relations_of tb)) (λ n h. ap (λ t. columns_of t (pos n)) e ∙ own n h))

pub named-ten : Named ten
named-ten = subst Named own_means (named_by own_bytes (ap (λ r. r.number) own-passes) (λ n h. ap (λ t. columns_of t (pos n)) own_means))
