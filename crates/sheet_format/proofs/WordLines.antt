-- The lines of a number form by their words.
use mathlib.Core.Path.{◌≡◌, refl, sym, ap, ◌∙◌}
use mathlib.Core.Bool.{false}
use mathlib.Core.List.{List, [], ◌∷◌}
use Prim.Native.Nat.{ℕ, zero, suc, ◌+◌, ◌-◌, ◌*◌, ◌/◌, ◌≤◌, ◌<◌}
use native.Mathlib.Numerals.{add-one}
use native.Mathlib.Omega.{arith}
use lib.IntN.{ℤ, pos}
use lib.ListN.{length, take, drop, get_or}
use lib.Seq.{drop-drop}
use Rattle.list_laws.proofs.Lists.{padded_get}
use Rattle.sheet_format.specs.Line.{Line, null, word_line, sevens, word_lines, line_words}
use Rattle.sheet_format.specs.Cause.{kind, kind_of}
use Rattle.sheet_format.proofs.Lists.{true-false}
use Rattle.sheet_format.proofs.LineLaws.{sevens-length, word_good, word-shown}
use Rattle.sheet_format.proofs.KindLaws.{kind-first}

pub sevens_get : (k : ℕ) (ws : List ℤ) (i : ℕ) → i < k → get_or (sevens k ws) i [] ≡ word_line (take 7 (drop (7 * i) ws))
unfolding sevens
sevens_get zero ws i h = absurd (omega arith)
sevens_get (suc k) ws zero h = refl
sevens_get (suc k) ws (suc i) h =
    sevens_get k (drop 7 ws) i (omega arith)
    ∙ ap (λ l. word_line (take 7 l)) (drop-drop (7 * i) 7 ws)
    ∙ ap (λ n. word_line (take 7 (drop n ws))) (let e : 7 + 7 * i ≡ 7 * suc i = omega arith in e)

pub lines-length : (ws : List ℤ) → length (word_lines ws) ≡ length ws / 7
lines-length ws = sevens-length (length ws / 7) ws

pub line_get : (ws : List ℤ) (i : ℕ) → i < length ws / 7 → get_or (word_lines ws) i [] ≡ word_line (take 7 (drop (7 * i) ws))
line_get ws i h = sevens_get (length ws / 7) ws i h

-- ---- a line that is not malformed, by its seven words

words_get : (l : Line) (j : ℕ) → get_or (line_words l) (suc j) (pos 0) ≡ get_or l j (pos 0)
unfolding line_words
words_get l j = padded_get (pos 0) l (6 - length l) j

words-first : (l : Line) → get_or (line_words l) 0 (pos 0) ≡ pos (length l)
unfolding line_words
words-first l = refl

some-field : (l : Line) → null l ≡ false → 1 ≤ length l
some-field [] e = true-false e
some-field (z ∷ l) e = omega arith

module _ (ws : List ℤ) (long : length ws ≡ 7) (formed : null (word_line ws) ≡ false) where
  -- the first word is the field count
  pub first_word : get_or ws 0 (pos 0) ≡ pos (length (word_line ws))
  first_word = sym (ap (λ l. get_or l 0 (pos 0)) (word-shown ws long formed)) ∙ words-first (word_line ws)

  pub line-few : (1 ≤ length (word_line ws)) × (length (word_line ws) ≤ 6)
  line-few = (some-field (word_line ws) formed, (word_good ws).few)

  -- field j is word j + 1, and an unused one is 0
  pub field-word : (j : ℕ) → get_or (word_line ws) j (pos 0) ≡ get_or ws (j + 1) (pos 0)
  field-word j = sym (words_get (word_line ws) j) ∙ ap (λ l. get_or l (suc j) (pos 0)) (word-shown ws long formed) ∙ ap (λ k. get_or ws k (pos 0)) (sym (add-one j))

  pub kind-word : kind (word_line ws) ≡ kind_of (get_or ws 1 (pos 0))
  kind-word = kind-first (word_line ws) formed ∙ ap kind_of (field-word 0)
