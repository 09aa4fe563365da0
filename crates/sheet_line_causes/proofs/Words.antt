-- A signed word by its two cases: its tests, and its kind. Assumes nothing.
use mathlib.Core.Path.{◌≡◌, refl, sym, ap, ◌∙◌}
use mathlib.Core.Bool.{Bool, true, false, not}
use Prim.Native.Nat.{ℕ, zero, suc, ◌<◌, ◌≤◌, ◌-◌}
use native.Mathlib.Omega.{arith}
use lib.Dec.{eqb, leb}
use lib.IntN.{ℤ, pos, negsuc}
use lib.Signed.{lt_z, le_z}
use mir.Syntax.{w32}
use mir.Val.{SFits, of_z}
use borrow.Author.Tests.{ltb-true, ltb-false, leb-true, leb-false, lt-ltb, le-ltb, le-leb, lt-leb, ne_eqb, not-true, not-false}
use Rattle.sheet_format.specs.Limits.{field_end, field_minus_end}
use Rattle.list_laws.proofs.Words.{word_of}
use Rattle.sheet_format.proofs.Lists.{no_way}
use Rattle.sheet_format.specs.Field.{fits}
use Rattle.sheet_format.specs.Line.{is_zero, natural}
use Rattle.sheet_format.specs.Cause.{kind_of}
use Rattle.sheet_format.specs.Cause.Kind.{question, saved, view, atom, row, other}
use Rattle.sheet_line_causes.specs.Parts.{count_of_fields}

-- what a call told of a test t, and the branch on its negation
pub failed : {r t : Bool} → r ≡ t → not r ≡ true → t ≡ false
failed {r} e n = sym e ∙ not-true r n

pub held : {r t : Bool} → r ≡ t → not r ≡ false → t ≡ true
held {r} e n = sym e ∙ not-false r n

pub wide_low : (z : ℤ) → le_z z (negsuc (field_minus_end - 1)) ≡ true → false ≡ fits z
wide_low (pos n) e = no_way e
wide_low (negsuc n) e = sym (le-ltb (suc n) field_minus_end (let h = leb-true (field_minus_end - 1) n e in omega arith))

pub narrow : (z : ℤ) → le_z z (negsuc (field_minus_end - 1)) ≡ false → lt_z z (pos field_end) ≡ fits z
narrow (pos n) e = refl
narrow (negsuc n) e = sym (lt-ltb (suc n) field_minus_end (let h = leb-false (field_minus_end - 1) n e in omega arith))

pub zero_bits : (z : ℤ) → SFits w32 z → eqb (of_z w32 z) 0 ≡ is_zero z
zero_bits (pos n) h = refl
zero_bits (negsuc n) h =
    let k : n < 2147483648 = h.sfits in
    ne_eqb (4294967296 - suc n) 0 (λ e. omega arith)

-- the kinds by the word's bits
pub is-question : {z : ℤ} → SFits w32 z → of_z w32 z ≡ 1 → kind_of z ≡ question
unfolding kind_of
is-question h e = ap kind_of (word_of 1 h e)

pub is-saved : {z : ℤ} → SFits w32 z → of_z w32 z ≡ 2 → kind_of z ≡ saved
unfolding kind_of
is-saved h e = ap kind_of (word_of 2 h e)

pub is_view : {z : ℤ} → SFits w32 z → of_z w32 z ≡ 3 → kind_of z ≡ view
unfolding kind_of
is_view h e = ap kind_of (word_of 3 h e)

pub is-atom : {z : ℤ} → SFits w32 z → of_z w32 z ≡ 4 → kind_of z ≡ atom
unfolding kind_of
is-atom h e = ap kind_of (word_of 4 h e)

pub is_row : {z : ℤ} → SFits w32 z → of_z w32 z ≡ 5 → kind_of z ≡ row
unfolding kind_of
is_row h e = ap kind_of (word_of 5 h e)

-- a word that is none of the kinds' numbers
pub other-kind : (z : ℤ) → (of_z w32 z ≡ 1 → ⊥) → (of_z w32 z ≡ 2 → ⊥) → (of_z w32 z ≡ 3 → ⊥) → (of_z w32 z ≡ 4 → ⊥) → (of_z w32 z ≡ 5 → ⊥) → kind_of z ≡ other
unfolding kind_of
other-kind (pos n) a b c d e = simp (ne_eqb n 1 a, ne_eqb n 2 b, ne_eqb n 3 c, ne_eqb n 4 d, ne_eqb n 5 e)
other-kind (negsuc n) a b c d e = refl

-- the field count
pub no-count-low : (z : ℤ) → lt_z z (pos 1) ≡ true → 0 ≡ count_of_fields z
no-count-low (pos zero) e = refl
no-count-low (pos (suc n)) e = let h = ltb-true (suc n) 1 e in absurd (omega arith)
no-count-low (negsuc n) e = refl

pub no-count-high : (z : ℤ) → lt_z (pos 6) z ≡ true → 0 ≡ count_of_fields z
no-count-high (pos n) e = rw (lt-leb n 6 (ltb-true 6 n e))
no-count-high (negsuc n) e = no_way e

pub counts : (z : ℤ) → lt_z z (pos 1) ≡ false → lt_z (pos 6) z ≡ false → (n : ℕ) × (n ≤ 6) × (z ≡ pos n)
counts (pos n) e f = (n, ltb-false 6 n f, refl)
counts (negsuc n) e f = no_way (sym e)

pub count_at : (n : ℕ) → n ≤ 6 → n ≡ count_of_fields (pos n)
count_at n h = rw (le-leb n 6 h)

pub count_most : (z : ℤ) → count_of_fields z ≤ 6
count_most z = go (leb (natural z) 6) refl
  where
    go : (b : Bool) → leb (natural z) 6 ≡ b → count_of_fields z ≤ 6
    go true e = rw e (leb-true (natural z) 6 e)
    go false e = rw e (omega arith)
