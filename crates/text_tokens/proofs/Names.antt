-- Laws of words, numbers and names.
use mathlib.Core.Path.{◌≡◌, refl, ap}
use mathlib.Core.Bool.{true, false, ◌&&◌}
use mathlib.Core.List.{List, [], ◌∷◌}
use Prim.Native.Nat.{ℕ, zero, suc, ◌+◌, ◌-◌, ◌≤◌, ◌<◌}
use native.Mathlib.Omega.{arith}
use lib.Dec.{eqb}
use Rattle.std.specs.Cmp.Lexicographic.{pointwise}
use Rattle.std.proofs.Common.{nat_eq}
use lib.ListN.{length, get_or, drop, drop_of_length-le}
use Rattle.list_laws.proofs.Lists.{drop-next}
use Rattle.text_writer.specs.Texts.{relation_names, name_bytes}
use Rattle.text_meaning.specs.Tokens.{token_kind}
use Rattle.text_meaning.specs.Names.{are_same_bytes, number_longer, number_from, among, letter_in, token_value, token_mark}

-- ---- the same bytes

pub same_bytes : (a b : List ℕ) → pointwise nat_eq a b ≡ are_same_bytes a b
unfolding are_same_bytes
same_bytes [] [] = refl
same_bytes [] (y ∷ b) = refl
same_bytes (x ∷ a) [] = refl
same_bytes (x ∷ a) (y ∷ b) = ap (λ t. eqb x y && t) (same_bytes a b)

-- ---- numbers

pub number-next : (s : List ℕ) (i n : ℕ) → i < length s → number_from n (drop i s) ≡ number_from (number_longer n (get_or s i 0)) (drop (i + 1) s)
unfolding number_from
number-next s i n h = rw (drop-next s i 0 h)

pub number-end : (s : List ℕ) (i n : ℕ) → length s ≤ i → number_from n (drop i s) ≡ n
unfolding number_from
number-end s i n h = rw (drop_of_length-le s h)

-- ---- relations

pub among_next : (w : List ℕ) (i r : ℕ) (ns : List (List ℕ)) → i < length ns → are_same_bytes w (get_or ns i []) ≡ false → among w r (drop i ns) ≡ among w (suc r) (drop (i + 1) ns)
unfolding among
among_next w i r ns h e = rw (drop-next ns i [] h, e)

pub among-here : (w : List ℕ) (i r : ℕ) (ns : List (List ℕ)) → i < length ns → are_same_bytes w (get_or ns i []) ≡ true → among w r (drop i ns) ≡ r
unfolding among
among-here w i r ns h e = rw (drop-next ns i [] h, e)

pub among_none : (w : List ℕ) (i r : ℕ) (ns : List (List ℕ)) → length ns ≤ i → among w r (drop i ns) ≡ 0
unfolding among
among_none w i r ns h = rw (drop_of_length-le ns h)

pub name_of : (r : ℕ) → 1 ≤ r → name_bytes r ≡ get_or relation_names (r - 1) []
name_of zero h = absurd (omega arith)
name_of (suc n) h = let e : suc n - 1 ≡ n = omega arith in rw e

-- ---- a mark

pub mark-none : (w : List ℕ) → length w ≡ 0 → record { kind = 10; letter = 0; value = 0 } ≡ token_mark w
unfolding token_mark
mark-none [] e = refl
mark-none (b ∷ w) e = absurd (omega arith)

pub mark-some : (w : List ℕ) {k l v : ℕ} → (length w ≡ 0 → ⊥) → k ≡ token_kind (get_or w 0 0) → l ≡ letter_in w → v ≡ token_value k w → record { kind = k; letter = l; value = v } ≡ token_mark w
unfolding token_mark
mark-some [] h e f g = absurd (h refl)
mark-some (b ∷ w) h e f g = rw (g, f, e)
