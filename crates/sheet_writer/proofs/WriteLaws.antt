-- Lines written as bytes.
use mathlib.Core.Path.{◌≡◌, sym, ap, ◌∙◌, subst}
use mathlib.Core.Bool.{false, not}
use mathlib.Core.List.{List, [], ◌∷◌, ◌++◌}
use Prim.Native.Nat.{ℕ, zero, suc, ◌+◌, ◌*◌, ◌/◌, ◌<◌, ◌≤◌}
use native.Mathlib.Omega.{arith}
use native.Mathlib.Numerals.{add-one}
use borrow.Author.Tests.{not-true}
use lib.IntN.{ℤ, pos}
use lib.ListN.{length, take, drop, get_or, set}
use lib.Seq.{take-suc, take-length, length-take-le}
use Rattle.list_laws.proofs.Lists.{part_get, part_length}
use Rattle.sheet_format.specs.Limits.{most_lines}
use Rattle.sheet_format.proofs.WordLines.{sevens_get}
use Rattle.sheet_format.proofs.WordLines as words
use Rattle.sheet_format.specs.Field.{field_bytes}
use Rattle.sheet_format.specs.Line.{Line, all, gather, null, count, word_line, sevens, word_lines, line_bytes, bytes_of}
use Rattle.sheet_format.specs.Table.{Table}
use Rattle.sheet_format.specs.Cause.{refusal_of}
use Rattle.sheet_format.proofs.Lists.{append-nil, gather_append, all-at}
use Rattle.sheet_format.proofs.Good.{Goods}
use Rattle.sheet_format.proofs.LineLaws.{sevens-good, sevens-length, bytes-size}
use Rattle.sheet_format.proofs.ScanLaws.{accepted-lines, accepted-length}
use Rattle.list_laws.specs.Wrote.{Wrote}
use Rattle.list_laws.proofs.Laws.{wrote_none, wrote-more, wrote-join}

abbrev pub seven_at : List ℤ → ℕ → List ℤ
seven_at ws i = take 7 (drop (i * 7) ws)

-- ---- one line that is not malformed

module _ (ws : List ℤ) (i : ℕ) (fits : i * 7 + 7 ≤ length ws) (formed : null (word_line (seven_at ws i)) ≡ false) where
  seven-length : length (seven_at ws i) ≡ 7
  seven-length = part_length ws (i * 7) 7 fits

  -- the first word is the field count
  pub first_word : get_or ws (i * 7) (pos 0) ≡ pos (length (word_line (seven_at ws i)))
  first_word =
      ap (λ k. get_or ws k (pos 0)) (let e : i * 7 ≡ i * 7 + 0 = omega arith in e)
      ∙ sym (part_get ws (i * 7) 7 0 (pos 0) (omega arith))
      ∙ words.first_word (seven_at ws i) seven-length formed

  pub line-few : (1 ≤ length (word_line (seven_at ws i))) × (length (word_line (seven_at ws i)) ≤ 6)
  line-few = words.line-few (seven_at ws i) seven-length formed

  -- its fields stand after it
  pub field-word : (j : ℕ) → j < length (word_line (seven_at ws i)) → get_or ws (i * 7 + 1 + j) (pos 0) ≡ get_or (word_line (seven_at ws i)) j (pos 0)
  field-word j lt =
      let f = line-few in
      sym (words.field-word (seven_at ws i) seven-length formed j
      ∙ part_get ws (i * 7) 7 (j + 1) (pos 0) (omega arith)
      ∙ ap (λ k. get_or ws k (pos 0)) (let e : i * 7 + (j + 1) ≡ i * 7 + 1 + j = omega arith in e))

-- ---- its bytes, field by field

pub field-more : (l : Line) (a b c : List ℕ) (at to j : ℕ) → j < length l → Wrote a b at to (gather field_bytes (take j l)) → Wrote b c to (to + 8) (field_bytes (get_or l j (pos 0))) → Wrote a c at (to + 8) (gather field_bytes (take (j + 1) l))
field-more l a b c at to j lt v w =
    subst (λ x. Wrote a c at (to + 8) x)
    (sym (ap (λ k. gather field_bytes (take k l)) (add-one j) ∙ ap (gather field_bytes) (take-suc l j (pos 0) lt) ∙ gather_append field_bytes (take j l) (get_or l j (pos 0) ∷ []) ∙ ap (λ x. gather field_bytes (take j l) ++ x) (append-nil (field_bytes (get_or l j (pos 0))))))
    (wrote-join a b c at to (to + 8) (gather field_bytes (take j l)) (field_bytes (get_or l j (pos 0))) v w)

pub line-closed : (l : Line) (a b : List ℕ) (at to j : ℕ) → j ≡ length l → to < length b → Wrote a b at to (gather field_bytes (take j l)) → Wrote a (set b to 10) at (to + 1) (line_bytes l)
unfolding line_bytes
line-closed l a b at to j e lt w = subst (λ x. Wrote a (set b to 10) at (to + 1) (gather field_bytes x ++ (10 ∷ []))) (ap (λ k. take k l) e ∙ take-length l) (wrote-more a b at to (gather field_bytes (take j l)) 10 lt w)

-- ---- all lines

sevens-at : (k i : ℕ) (ws : List ℤ) → i < k → get_or (sevens k ws) i [] ≡ word_line (seven_at ws i)
sevens-at k i ws lt = sevens_get k ws i lt ∙ ap (λ n. word_line (take 7 (drop n ws))) (let e : 7 * i ≡ i * 7 = omega arith in e)

goods_take : (n : ℕ) (ls : List Line) → Goods ls → Goods (take n ls)
goods_take zero ls g = tt
goods_take (suc n) [] g = tt
goods_take (suc n) (l ∷ ls) g = (g.0, goods_take n ls g.1)

module _ (table : Table) (ws : List ℤ) (clean : (refusal_of table (word_lines ws)).number ≡ 0) where
  pub few-lines : length ws / 7 ≤ most_lines
  few-lines = let e = sevens-length (length ws / 7) ws in let h = accepted-length table (word_lines ws) clean in omega arith

  pub line-formed : (i : ℕ) → i < length ws / 7 → null (word_line (seven_at ws i)) ≡ false
  line-formed i lt =
      let e = sevens-length (length ws / 7) ws in
      not-true (null (word_line (seven_at ws i)))
      (ap (λ l. not (null l)) (sym (sevens-at (length ws / 7) i ws lt)) ∙ all-at (λ l. not (null l)) [] (word_lines ws) (accepted-lines table (word_lines ws) clean) i (omega arith))

  -- the lines so far have at most 49 bytes each
  pub at_small : (i at : ℕ) (a b : List ℕ) → i ≤ length ws / 7 → Wrote a b 0 at (bytes_of (take i (word_lines ws))) → at ≤ i * 49
  at_small i at a b le w =
      let e = w.end in
      let s = bytes-size (take i (word_lines ws)) (goods_take i (word_lines ws) (sevens-good (length ws / 7) ws)) in
      let k = sevens-length (length ws / 7) ws in
      let n = length-take-le i (word_lines ws) (omega arith) in
      omega arith

  pub lines_more : (i at to : ℕ) (a b c : List ℕ) → i < length ws / 7 → Wrote a b 0 at (bytes_of (take i (word_lines ws))) → Wrote b c at to (line_bytes (word_line (seven_at ws i))) → Wrote a c 0 to (bytes_of (take (i + 1) (word_lines ws)))
  unfolding bytes_of
  lines_more i at to a b c lt v w =
      let ls = word_lines ws in
      let l = word_line (seven_at ws i) in
      let k = sevens-length (length ws / 7) ws in
      subst (λ x. Wrote a c 0 to x)
      (sym (ap (λ n. bytes_of (take n ls)) (add-one i) ∙ ap bytes_of (take-suc ls i [] (omega arith)) ∙ gather_append line_bytes (take i ls) (get_or ls i [] ∷ []) ∙ ap (λ x. bytes_of (take i ls) ++ x) (append-nil (line_bytes (get_or ls i []))) ∙ ap (λ x. bytes_of (take i ls) ++ line_bytes x) (sevens-at (length ws / 7) i ws lt)))
      (wrote-join a b c 0 at to (bytes_of (take i ls)) (line_bytes l) v w)

  pub lines-all : (i at : ℕ) (a b : List ℕ) → i ≡ length ws / 7 → Wrote a b 0 at (bytes_of (take i (word_lines ws))) → Wrote a b 0 at (bytes_of (word_lines ws))
  lines-all i at a b e w = subst (λ x. Wrote a b 0 at (bytes_of x)) (ap (λ k. take k (word_lines ws)) (e ∙ sym (sevens-length (length ws / 7) ws)) ∙ take-length (word_lines ws)) w

pub lines_none : (a : List ℕ) → Wrote a a 0 0 (bytes_of [])
unfolding bytes_of
lines_none a = wrote_none a 0
