-- A signed word by its two cases: as a term, and as a relation's number. Assumes nothing.
use mathlib.Core.Path.{◌≡◌, refl, sym, ap}
use mathlib.Core.Bool.{true, false}
use mathlib.Core.List.{List, [], ◌∷◌}
use Prim.Native.Nat.{ℕ, zero, suc, ◌+◌, ◌*◌, ◌<◌, ◌≤◌, min}
use native.Mathlib.Nat.{zero-add, add-zero}
use native.Mathlib.Omega.{arith}
use lib.Dec.{leb}
use lib.IntN.{ℤ, pos, negsuc, ◌-ℤ◌}
use lib.ListN.{get_or}
use lib.Signed.{lt_z}
use borrow.Author.Tests.{ltb-true, ltb-false, lt-ltb, le-ltb, leb-true}
use Rattle.sheet_format.specs.Limits.{constant_end, most_columns, relation_number_count}
use Rattle.sheet_format.specs.Line.{all, natural}
use Rattle.sheet_format.proofs.Lists.{no_way}
use Rattle.sheet_format.proofs.TableLaws.{Narrow}
use Rattle.sheet_format.specs.Cause.{term_of, or_out}
use Rattle.sheet_format.specs.Table.{Table, unknown, relation, columns_of, table_in}
use Rattle.sheet_format.specs.Answers.FieldTerm.{Constant, Variable, OutOfRange}

-- ---- terms

-- from the last variable to -1: the negation is the index
pub variable : (z : ℤ) → lt_z z (pos 0) ≡ true → lt_z z (negsuc 11) ≡ false → (n : ℕ) × (n < 12) × (z ≡ negsuc n) × (pos 0 -ℤ z ≡ pos (suc n))
variable (pos n) e f = let h = ltb-true n 0 e in absurd (omega arith)
variable (negsuc n) e f = (n, (let h = ltb-false 11 n f in omega arith), refl, ap pos (zero-add (suc n)))

pub term-variable : (n : ℕ) → n < 12 → Variable (suc n) ≡ term_of (negsuc n)
unfolding term_of
term-variable n h = ap (λ b. or_out b (Variable (suc n))) (sym (lt-ltb n 12 h))

pub term-low : (z : ℤ) → lt_z z (negsuc 11) ≡ true → OutOfRange ≡ term_of z
unfolding term_of
term-low (pos n) e = no_way e
term-low (negsuc n) e = ap (λ b. or_out b (Variable (suc n))) (sym (le-ltb n 12 (let h = ltb-true 11 n e in omega arith)))

pub constant : (z : ℤ) → lt_z z (pos 0) ≡ false → lt_z z (pos constant_end) ≡ true → (n : ℕ) × (n < constant_end) × (z ≡ pos n)
constant (pos n) e f = (n, ltb-true n constant_end f, refl)
constant (negsuc n) e f = no_way (sym e)

pub term-constant : (n : ℕ) → n < constant_end → Constant n ≡ term_of (pos n)
unfolding term_of
term-constant n h = ap (λ b. or_out b (Constant n)) (sym (lt-ltb n constant_end h))

pub term-high : (z : ℤ) → lt_z z (pos constant_end) ≡ false → OutOfRange ≡ term_of z
unfolding term_of
term-high (pos n) e = ap (λ b. or_out b (Constant n)) (sym e)
term-high (negsuc n) e = no_way (sym e)

-- ---- relations

-- from 1 on
pub numbered : (z : ℤ) → lt_z z (pos 1) ≡ false → (n : ℕ) × (z ≡ pos (suc n))
numbered (pos zero) e = let h = ltb-false 0 1 e in absurd (omega arith)
numbered (pos (suc n)) e = (n, refl)
numbered (negsuc n) e = no_way (sym e)

pub no-columns : (t : Table) (z : ℤ) → lt_z z (pos 1) ≡ true → 0 ≡ columns_of t z
unfolding columns_of relation
no-columns t (pos zero) e = refl
no-columns t (pos (suc n)) e = let h = ltb-true (suc n) 1 e in absurd (omega arith)
no-columns t (negsuc n) e = refl

pub suc_of : (n : ℕ) → (n ≡ 0 → ⊥) → (m : ℕ) × (n ≡ suc m)
suc_of zero h = absurd (h refl)
suc_of (suc n) h = (n, refl)

-- a number of a relation that plain numbers give
module _ (ns : List ℕ) (n : ℕ) where
  pub columns-at : min most_columns (get_or ns (n * relation_number_count + 0) 0) ≡ columns_of (table_in ns) (pos (suc n))
  unfolding columns_of relation
  columns-at = ap (λ i. min most_columns (get_or ns i 0)) (add-zero (n * relation_number_count))

  pub key-at : min most_columns (get_or ns (n * relation_number_count + 1) 0) ≡ (relation (table_in ns) (suc n)).key
  unfolding relation
  key-at = refl

  pub parent-at : get_or ns (n * relation_number_count + 2) 0 ≡ (relation (table_in ns) (suc n)).parent
  unfolding relation
  parent-at = refl

pub none-at : (t : Table) (n : ℕ) → n ≡ 0 → relation t n ≡ unknown
unfolding relation
none-at t zero e = refl
none-at t (suc n) e = absurd (omega arith)

-- neither columns nor keys are more than a fact has values
pub columns-most : (ns : List ℕ) → Narrow (table_in ns)
unfolding columns_of relation
columns-most ns (pos zero) = omega arith
columns-most ns (pos (suc n)) = omega arith
columns-most ns (negsuc n) = omega arith

pub key-most : (ns : List ℕ) (n : ℕ) → (relation (table_in ns) n).key ≤ most_columns
unfolding relation
key-most ns zero = omega arith
key-most ns (suc n) = omega arith

-- ---- numbers

pub natural-low : (z : ℤ) → lt_z z (pos 0) ≡ true → 0 ≡ natural z
natural-low (pos n) e = let h = ltb-true n 0 e in absurd (omega arith)
natural-low (negsuc n) e = refl
