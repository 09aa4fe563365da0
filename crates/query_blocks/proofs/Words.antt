-- The fields of a line by its words. Assumes nothing.
use mathlib.Core.Path.{◌≡◌, refl, sym, ap, ◌∙◌}
use mathlib.Core.Bool.{false}
use mathlib.Core.List.{List, [], ◌∷◌}
use Prim.Native.Nat.{ℕ, suc, ◌+◌, ◌-◌, ◌*◌, ◌/◌, ◌<◌}
use native.Mathlib.Omega.{arith}
use lib.IntN.{ℤ, pos}
use lib.ListN.{length, take, drop, get_or}
use Rattle.sheet_format.proofs.KindLaws.{kind-first}
use Rattle.sheet_format.proofs.WordLines.{line_get}
use Rattle.sheet_format.proofs.WordLines as words
use Rattle.list_laws.proofs.Lists.{part_get, part_length}
use Rattle.sheet_format.specs.Line.{Line, null, word_lines}
use Rattle.sheet_format.specs.Cause.{kind_of, kind, rest, second, terms}

-- ---- a line's fields, the unused ones 0, are its words after the first

-- field f of a well-formed line i is word 7 i + 1 + f
pub field-word : (ws : List ℤ) (i : ℕ) → i < length ws / 7 → null (get_or (word_lines ws) i []) ≡ false → (f : ℕ) → f < 6
    → get_or (get_or (word_lines ws) i []) f (pos 0) ≡ get_or ws (7 * i + 1 + f) (pos 0)
field-word ws i lt h f few =
    let s = take 7 (drop (7 * i) ws) in
    let e = line_get ws i lt in
    ap (λ l. get_or l f (pos 0)) e
    ∙ words.field-word s (part_length ws (7 * i) 7 (omega arith)) (ap null (sym e) ∙ h) f
    ∙ part_get ws (7 * i) 7 (f + 1) (pos 0) (omega arith)
    ∙ ap (λ k. get_or ws k (pos 0)) (let q : 7 * i + (f + 1) ≡ 7 * i + 1 + f = omega arith in q)

rest_get : (l : Line) (f : ℕ) → get_or (rest l) f (pos 0) ≡ get_or l (suc f) (pos 0)
rest_get [] f = refl
rest_get (k ∷ l) f = refl

second_get : (l : Line) → second l ≡ get_or l 1 (pos 0)
second_get [] = refl
second_get (k ∷ []) = refl
second_get (k ∷ r ∷ l) = refl

module _ (ws : List ℤ) (i : ℕ) (lt : i < length ws / 7) (h : null (get_or (word_lines ws) i []) ≡ false) where
  pub kind-word : kind (get_or (word_lines ws) i []) ≡ kind_of (get_or ws (7 * i + 1) (pos 0))
  kind-word = kind-first (get_or (word_lines ws) i []) h ∙ ap kind_of (field-word ws i lt h 0 (omega arith) ∙ ap (λ k. get_or ws k (pos 0)) (let q : 7 * i + 1 + 0 ≡ 7 * i + 1 = omega arith in q))

  pub second_word : second (get_or (word_lines ws) i []) ≡ get_or ws (7 * i + 2) (pos 0)
  second_word = second_get (get_or (word_lines ws) i []) ∙ field-word ws i lt h 1 (omega arith) ∙ ap (λ k. get_or ws k (pos 0)) (let q : 7 * i + 1 + 1 ≡ 7 * i + 2 = omega arith in q)

  pub rest-word : (p : ℕ) → p < 5 → get_or (rest (get_or (word_lines ws) i [])) p (pos 0) ≡ get_or ws (7 * i + 2 + p) (pos 0)
  rest-word p few = rest_get (get_or (word_lines ws) i []) p ∙ field-word ws i lt h (suc p) (omega arith) ∙ ap (λ k. get_or ws k (pos 0)) (let q : 7 * i + 1 + suc p ≡ 7 * i + 2 + p = omega arith in q)

  pub term-word : (c : ℕ) → c < 4 → get_or (terms (get_or (word_lines ws) i [])) c (pos 0) ≡ get_or ws (7 * i + 3 + c) (pos 0)
  term-word c few = rest_get (rest (get_or (word_lines ws) i [])) c ∙ rest-word (suc c) (omega arith) ∙ ap (λ k. get_or ws k (pos 0)) (let q : 7 * i + 2 + suc c ≡ 7 * i + 3 + c = omega arith in q)
