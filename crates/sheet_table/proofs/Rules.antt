-- The rules of a line, one after the other, over plain numbers.
use mathlib.Core.Path.{◌≡◌, refl}
use mathlib.Core.Bool.{true, false}
use mathlib.Core.List.{List}
use Prim.Native.Nat.{ℕ, ◌+◌, ◌-◌, ◌*◌, ◌≤◌, ◌<◌}
use native.Mathlib.Omega.{arith}
use borrow.Author.Tests.{eq-eqb, ne_eqb, le-leb, lt-leb, lt-ltb, le-ltb, ltb-true}
use lib.Dec.{eqb}
use lib.IntN.{ℤ, pos, negsuc}
use lib.ListN.{get_or}
use lib.Signed.{lt_z}
use Rattle.sheet_format.specs.Limits.{field_end, most_columns}
use Rattle.sheet_table.specs.Numbers.{plain_number, parent_obeys, line_obeys}

pub below-zero : (z : ℤ) → lt_z z (pos 0) ≡ true → field_end ≡ plain_number z
below-zero (pos n) e = let h = ltb-true n 0 e in absurd (omega arith)
below-zero (negsuc n) e = refl

-- ---- the parent

module _ (ns : List ℕ) (n c p : ℕ) where
  pub parent-none : p ≡ 0 → true ≡ parent_obeys ns n c p
  unfolding parent_obeys
  parent-none e = rw (eq-eqb p 0 e)

  pub parent-high : (p ≡ 0 → ⊥) → n < p → false ≡ parent_obeys ns n c p
  unfolding parent_obeys
  parent-high h lt = rw (ne_eqb p 0 h, lt-leb p n lt)

  pub parent-other : (p ≡ 0 → ⊥) → p ≤ n → (get_or ns ((p - 1) * 3) 0 ≡ c → ⊥) → false ≡ parent_obeys ns n c p
  unfolding parent_obeys
  parent-other h le o = rw (ne_eqb p 0 h, le-leb p n le, ne_eqb (get_or ns ((p - 1) * 3) 0) c o)

  pub parent-last : (p ≡ 0 → ⊥) → p ≤ n → get_or ns ((p - 1) * 3) 0 ≡ c → eqb (get_or ns ((p - 1) * 3 + 2) 0) 0 ≡ parent_obeys ns n c p
  unfolding parent_obeys
  parent-last h le e = rw (ne_eqb p 0 h, le-leb p n le, eq-eqb (get_or ns ((p - 1) * 3) 0) c e)

-- ---- the line

module _ (ns : List ℕ) (n m c k p : ℕ) where
  pub other-number : (m ≡ n + 1 → ⊥) → false ≡ line_obeys ns n m c k p
  unfolding line_obeys
  other-number h = rw (ne_eqb m (n + 1) h)

  pub no-columns : m ≡ n + 1 → c < 1 → false ≡ line_obeys ns n m c k p
  unfolding line_obeys
  no-columns e lt = rw (eq-eqb m (n + 1) e, lt-leb 1 c lt)

  pub many-columns : m ≡ n + 1 → 1 ≤ c → 4 < c → false ≡ line_obeys ns n m c k p
  unfolding line_obeys
  many-columns e le lt = rw (eq-eqb m (n + 1) e, le-leb 1 c le, lt-leb c most_columns lt)

  pub wide_key : m ≡ n + 1 → 1 ≤ c → c ≤ 4 → c ≤ k → false ≡ line_obeys ns n m c k p
  unfolding line_obeys
  wide_key e le few w = rw (eq-eqb m (n + 1) e, le-leb 1 c le, le-leb c most_columns few, le-ltb k c w)

  pub parent-left : m ≡ n + 1 → 1 ≤ c → c ≤ 4 → k < c → parent_obeys ns n c p ≡ line_obeys ns n m c k p
  unfolding line_obeys
  parent-left e le few lt = rw (eq-eqb m (n + 1) e, le-leb 1 c le, le-leb c most_columns few, lt-ltb k c lt)
