-- What is written for each line of a sheet.
use mathlib.Core.Path.{◌≡◌, refl, ap, ◌∙◌}
use mathlib.Core.Bool.{false}
use mathlib.Core.List.{List, [], ◌∷◌, ◌++◌, map, append_assoc, append-nil}
use Prim.Native.Nat.{ℕ, suc, ◌-◌, ◌/◌, ◌≤◌, ◌<◌}
use native.Mathlib.Omega.{arith}
use lib.Dec.{eqb, ltb}
use lib.IntN.{ℤ, pos}
use lib.ListN.{length, drop, replicate}
use lib.Seq.{take-append_seam, take_at, drop_at}
use borrow.Author.Tests.{ne_eqb, lt-ltb, le-ltb}
use Rattle.sheet_format.specs.Line.{Line, line_words, words_of}
use Rattle.sheet_format.specs.Table.{Table, columns_of}
use Rattle.sheet_format.proofs.Good.{Goods}
use Rattle.sheet_format.proofs.LineLaws.{words-length, all-words-length}
use Rattle.text_begins.specs.Begins.{letter_of}
use Rattle.text_writer.specs.Texts.{terms_bytes, relation_bytes, fact_bytes, groups, line_terms, values_bytes, line_text, lines_from, lines_bytes}
use Rattle.text_laws.proofs.Lines.{row_values}

-- ---- groups of words

groups-back : (ls : List Line) → Goods ls → groups 7 (length ls) (words_of ls) ≡ map line_words ls
unfolding groups words_of
groups-back [] g = refl
groups-back (l ∷ ls) g =
    rw (take_at (line_words l) (words_of ls) 7 (words-length l g.0), drop_at (line_words l) (words_of ls) 7 (words-length l g.0))
    (ap (λ r. line_words l ∷ r) (groups-back ls g.1))

-- the text of a number form goes by its lines
pub lines-shown : (table : Table) (ls : List Line) → Goods ls → lines_bytes table (words_of ls) ≡ lines_from table 0 (map line_words ls)
unfolding lines_bytes
lines-shown table ls g = let n = all-words-length ls g in let e : length (words_of ls) / 7 ≡ length ls = omega arith in
    ap (λ k. lines_from table 0 (groups 7 k (words_of ls))) e ∙ ap (lines_from table 0) (groups-back ls g)

-- ---- a line's terms

terms-shown : (k : ℤ) (zs : List ℤ) → length zs ≤ 5 → line_terms (line_words (k ∷ zs)) ≡ zs
unfolding line_words
terms-shown k zs h =
    let e : suc (length zs) - 1 ≡ length zs = omega arith in
    rw (le-ltb 6 (suc (length zs)) (omega arith), e) (take-append_seam zs (replicate (6 - suc (length zs)) (pos 0)))

-- a head
pub head-shown : (table : Table) (kind block next : ℕ) (zs : List ℤ) → eqb kind 4 ≡ false → eqb kind 5 ≡ false → next ≡ 4 → length zs ≤ 5
    → line_text table (line_words (pos kind ∷ zs)) kind block next ≡ letter_of kind ∷ (terms_bytes zs ++ (58 ∷ []))
unfolding line_text
head-shown table kind block next zs a b e h = rw (a, b, e, terms-shown (pos kind) zs h) (ap (λ x. letter_of kind ∷ x) (append-nil (terms_bytes zs ++ (58 ∷ []))))

fact-shown : (table : Table) (r : ℕ) (zs : List ℤ) → columns_of table (pos r) ≡ length zs → fact_bytes table (drop 2 (line_words (pos 4 ∷ pos r ∷ zs))) ≡ relation_bytes r ++ terms_bytes zs
unfolding fact_bytes line_words
fact-shown table r zs e = rw e (ap (λ x. relation_bytes r ++ terms_bytes x) (take-append_seam zs (replicate (6 - suc (suc (length zs))) (pos 0))))

values-shown : (zs : List ℤ) → length zs ≤ 5 → values_bytes (line_words (pos 5 ∷ zs)) ≡ row_values zs
unfolding line_words
values-shown [] h = refl
values-shown (z ∷ []) h = refl
values-shown (z ∷ y ∷ zs) h =
    let n = suc (suc (suc (length zs))) in
    let e : line_terms (line_words (pos 5 ∷ z ∷ y ∷ zs)) ≡ z ∷ y ∷ zs = terms-shown (pos 5) (z ∷ y ∷ zs) h in
    by (le-ltb 6 n (omega arith)) (ne_eqb n 2 (λ i. omega arith)) e
  where
    by : ltb 6 (suc (suc (suc (length zs)))) ≡ false → eqb (suc (suc (suc (length zs)))) 2 ≡ false → line_terms (line_words (pos 5 ∷ z ∷ y ∷ zs)) ≡ z ∷ y ∷ zs → values_bytes (line_words (pos 5 ∷ z ∷ y ∷ zs)) ≡ terms_bytes (z ∷ y ∷ zs)
    by a b e = rw (a, b) (ap terms_bytes (rw a at e))

-- an atom that another one follows
pub atom-more : (table : Table) (block r : ℕ) (zs : List ℤ) (next : ℕ) → columns_of table (pos r) ≡ length zs → next ≡ 4 → line_text table (line_words (pos 4 ∷ pos r ∷ zs)) 4 block next ≡ 32 ∷ ((relation_bytes r ++ terms_bytes zs) ++ (44 ∷ []))
unfolding line_text
atom-more table block r zs next e n = rw (n, fact-shown table r zs e) (ap (λ x. 32 ∷ x) (append-nil ((relation_bytes r ++ terms_bytes zs) ++ (44 ∷ []))))

-- a view's last atom, before a row
pub atom-rows : (table : Table) (block r : ℕ) (zs : List ℤ) (next : ℕ) → columns_of table (pos r) ≡ length zs → next ≡ 5 → block ≡ 3 → line_text table (line_words (pos 4 ∷ pos r ∷ zs)) 4 block next ≡ 32 ∷ ((relation_bytes r ++ terms_bytes zs) ++ (32 ∷ 61 ∷ []))
unfolding line_text
atom-rows table block r zs next e n b = rw (n, b, fact-shown table r zs e) (ap (λ x. 32 ∷ x) (append-nil ((relation_bytes r ++ terms_bytes zs) ++ (32 ∷ 61 ∷ []))))

-- a block's last line, before a head or nothing
pub atom-view-end : (table : Table) (block r : ℕ) (zs : List ℤ) (next : ℕ) → columns_of table (pos r) ≡ length zs → next < 4 → block ≡ 3 → line_text table (line_words (pos 4 ∷ pos r ∷ zs)) 4 block next ≡ 32 ∷ ((relation_bytes r ++ terms_bytes zs) ++ (32 ∷ 61 ∷ 10 ∷ []))
unfolding line_text
atom-view-end table block r zs next e n b = rw (ne_eqb next 4 (λ i. omega arith), lt-ltb next 4 n, b, fact-shown table r zs e) (ap (λ x. 32 ∷ x) (append_assoc (relation_bytes r ++ terms_bytes zs) (32 ∷ 61 ∷ []) (10 ∷ [])))

pub atom-end : (table : Table) (block r : ℕ) (zs : List ℤ) (next : ℕ) → columns_of table (pos r) ≡ length zs → next < 4 → (block ≡ 3 → ⊥) → line_text table (line_words (pos 4 ∷ pos r ∷ zs)) 4 block next ≡ 32 ∷ ((relation_bytes r ++ terms_bytes zs) ++ (10 ∷ []))
unfolding line_text
atom-end table block r zs next e n b = rw (ne_eqb next 4 (λ i. omega arith), lt-ltb next 4 n, ne_eqb block 3 b, fact-shown table r zs e) (ap (λ x. 32 ∷ (x ++ (10 ∷ []))) (append-nil (relation_bytes r ++ terms_bytes zs)))

-- a row
pub row_more : (table : Table) (block : ℕ) (zs : List ℤ) (next : ℕ) → length zs ≤ 5 → next ≡ 5 → line_text table (line_words (pos 5 ∷ zs)) 5 block next ≡ 32 ∷ (row_values zs ++ (59 ∷ []))
unfolding line_text
row_more table block zs next h n = rw n (ap (λ x. 32 ∷ x) (append-nil (values_bytes (line_words (pos 5 ∷ zs)) ++ (59 ∷ [])) ∙ ap (λ x. x ++ (59 ∷ [])) (values-shown zs h)))

pub row-end : (table : Table) (block : ℕ) (zs : List ℤ) (next : ℕ) → length zs ≤ 5 → next < 4 → line_text table (line_words (pos 5 ∷ zs)) 5 block next ≡ 32 ∷ (row_values zs ++ (10 ∷ []))
unfolding line_text
row-end table block zs next h n = rw (ne_eqb next 5 (λ i. omega arith), lt-ltb next 4 n) (ap (λ x. 32 ∷ (x ++ (10 ∷ []))) (append-nil (values_bytes (line_words (pos 5 ∷ zs))) ∙ values-shown zs h))
