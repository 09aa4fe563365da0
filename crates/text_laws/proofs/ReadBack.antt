-- The lines of an accepted sheet, as they are written one after the other, are read back with their variables numbered by first place.
use mathlib.Core.Path.{◌≡◌, refl, sym, ap, ◌∙◌}
use mathlib.Core.Bool.{Bool, true, false, not, ◌||◌}
use mathlib.Core.List.{List, [], ◌∷◌, ◌++◌, map, reverse, reverse-cons, append_assoc, append-nil}
use mathlib.Core.Logic.{◌⊎◌, inl, inr, ⊎_elim}
use Prim.Native.Nat.{ℕ, zero, suc, ◌+◌, ◌-◌, ◌≤◌, ◌<◌}
use native.Mathlib.Omega.{arith}
use lib.Dec.{eqb, ltb, leb}
use lib.IntN.{ℤ, pos, negsuc}
use lib.ListN.{length}
use borrow.Author.Tests.{ltb-true, eqb-true, eqb-false, eq-eqb, ne_eqb, leb-true, not-false}
use Rattle.list_laws.proofs.Order.{less?}
use Rattle.sheet_format.specs.Line.{Line, all, line_words}
use Rattle.sheet_format.specs.Limits.{field_end}
use Rattle.sheet_format.specs.Table.{Table, relation, columns_of, ten}
use Rattle.sheet_format.specs.Cause.{kind_of, kind, term, constant, start, next, scan, is_head, heads, refusal_of}
use Rattle.sheet_format.specs.Answers.{Seen}
use Rattle.sheet_format.proofs.Lists.{no_way, true-false, both, neither}
use Rattle.sheet_format.proofs.ScanLaws.{Clean, clean_line, accepted-scan}
use Rattle.text_begins.specs.Begins.{letter_of}
use Rattle.text_writer.specs.Texts.{terms_bytes, relation_bytes, line_kind, block_kind, kind_of_first, line_text, lines_from}
use Rattle.text_meaning.specs.Tokens.{token_kind, behind}
use Rattle.text_meaning.specs.Names.{token_mark}
use Rattle.text_meaning.specs.Places.{columns_in, next_block, start_at, step_from, step}
use Rattle.text_meaning.specs.Reading.{Reading, read, read_all, unread}
use Rattle.text_meaning.specs.Control.{Control}
use Rattle.text_laws.specs.Named.{Named}
use Rattle.text_laws.specs.Numbered.{numbered_terms, known_behind, terms_in, known_in, numbered_lines}
use Rattle.text_laws.proofs.Terms.{reads, letters, Below, terms-below}
use Rattle.text_laws.proofs.Bracketed.{within}
use Rattle.text_laws.proofs.Lines.{standing, blank-on, HeadAt, head-line, atom-line, atom-next, rows_next, no_rows, block-end, end_sign, end_place, end_line, row_values, constants-kept, row-line}
use Rattle.text_laws.proofs.Shown.{head-shown, atom-more, atom-rows, atom-view-end, atom-end, row_more, row-end}
use Rattle.text_laws.proofs.Follows.{scan-on, heads-on, kind-shown, head_follows, Follows, no_other, line_follows}

-- ---- from line to line

-- the place where the next line is due, by its kind
pub record PlaceFor (place next : ℕ) : Type 0 where
  pub head : next < 4 → place ≡ 0
  pub atom : next ≡ 4 → place ≡ 7
  pub row : next ≡ 5 → (place ≡ 9) ⊎ (place ≡ 10)

head_due : (next : ℕ) → next < 4 → PlaceFor 0 next
head_due next n = record { head = λ i. refl; atom = λ i. absurd (omega arith); row = λ i. absurd (omega arith) }

atom_due : (next : ℕ) → next ≡ 4 → PlaceFor 7 next
atom_due next n = record { head = λ i. absurd (omega arith); atom = λ i. refl; row = λ i. absurd (omega arith) }

row_due : (place next : ℕ) → (place ≡ 9) ⊎ (place ≡ 10) → next ≡ 5 → PlaceFor place next
row_due place next d n = record { head = λ i. absurd (omega arith); atom = λ i. absurd (omega arith); row = λ i. d }

-- everything fits, and these lines were read
pub record Ends (r : Reading) (ls : List Line) : Type 0 where
  pub fits : r.control.expected ≡ 0
  pub lines : reverse r.lines ≡ ls

-- the text of some lines of a block, from where they are due, gives them after those that were read, numbered after the variables ks
abbrev pub ReadBack : (table : Table) → ℕ → List Line → List ℕ → Type 0
ReadBack table block ls ks = (c : Control) (line : ℕ) (done : List Line) (starts : List ℕ) (place : ℕ) → Below ks → PlaceFor place (kind_of_first (map line_words ls))
    → Ends (reads (standing place block c line (letters ks) done starts) (lines_from table block (map line_words ls))) (reverse done ++ numbered_lines ks ls)

-- one line more was read
one_more : (r : Reading) (done : List Line) (l : Line) (ls : List Line) → Ends r (reverse (l ∷ done) ++ ls) → Ends r (reverse done ++ (l ∷ ls))
one_more r done l ls e = record { fits = e.fits; lines = e.lines ∙ ap (λ x. x ++ ls) (reverse-cons l done) ∙ append_assoc (reverse done) (l ∷ []) ls }

first-line : (table : Table) (k block : ℕ) (l : Line) (ls : List Line) → line_kind (line_words l) ≡ k
    → lines_from table block (map line_words (l ∷ ls)) ≡ line_text table (line_words l) k (block_kind k block) (kind_of_first (map line_words ls)) ++ lines_from table (block_kind k block) (map line_words ls)
unfolding lines_from
first-line table k block l ls e = rw e

-- ---- heads

module _ (table : Table) (k block : ℕ) (h : HeadAt block k) (low : ltb 6 k ≡ false) (zs : List ℤ) (ls : List Line) (ks : List ℕ) where
  head-text : kind_of_first (map line_words ls) ≡ 4 → length zs ≤ 4 → lines_from table block (map line_words ((pos k ∷ zs) ∷ ls)) ≡ letter_of k ∷ (terms_bytes zs ++ (58 ∷ lines_from table k (map line_words ls)))
  head-text n s =
      let b : block_kind k block ≡ k = rw (h.no-atom, h.no_row) in
      first-line table k block (pos k ∷ zs) ls (kind-shown k zs low)
      ∙ ap (λ x. line_text table (line_words (pos k ∷ zs)) k x (kind_of_first (map line_words ls)) ++ lines_from table x (map line_words ls)) b
      ∙ ap (λ x. x ++ lines_from table k (map line_words ls)) (head-shown table k k (kind_of_first (map line_words ls)) zs h.no-atom h.no_row n (omega arith))
      ∙ ap (λ x. letter_of k ∷ x) (append_assoc (terms_bytes zs) (58 ∷ []) (lines_from table k (map line_words ls)))

  head_step : all term zs ≡ true → length zs ≤ 4 → kind_of_first (map line_words ls) ≡ 4
      → numbered_lines ks ((pos k ∷ zs) ∷ ls) ≡ (pos k ∷ numbered_terms [] zs) ∷ numbered_lines (known_behind [] zs) ls
      → ReadBack table k ls (known_behind [] zs) → ReadBack table block ((pos k ∷ zs) ∷ ls) ks
  head_step a s n e back c line done starts place b p =
      let o : place ≡ 0 = p.head (let i = kind-shown k zs low in let j = ltb-true k 4 h.low in omega arith) in
      let l = pos k ∷ numbered_terms [] zs in
      let q = within 7 k k 0 (4 - length zs) false line (letters (known_behind [] zs)) l done (line ∷ starts) in
      let x : reads (standing place block c line (letters ks) done starts) (lines_from table block (map line_words ((pos k ∷ zs) ∷ ls))) ≡ reads q (lines_from table k (map line_words ls)) =
      ap (λ i. reads (standing i block c line (letters ks) done starts) (lines_from table block (map line_words ((pos k ∷ zs) ∷ ls)))) o
      ∙ ap (reads (standing 0 block c line (letters ks) done starts)) (head-text n s)
      ∙ head-line block k h c line (letters ks) done starts zs (lines_from table k (map line_words ls)) a s in
      let r = back q.control line (l ∷ done) (line ∷ starts) 7 (terms-below zs [] a tt) (atom_due (kind_of_first (map line_words ls)) n) in
      rw (x, e) (one_more (reads q (lines_from table k (map line_words ls))) done l (numbered_lines (known_behind [] zs) ls) r)

-- ---- atoms

module _ (table : Table) (block r : ℕ) (zs : List ℤ) (ls : List Line) (ks : List ℕ) (some : 0 < r) (short : r < field_end) (own : r ≤ 10 → columns_of ten (pos r) ≡ columns_of table (pos r)) (a : all term zs ≡ true) (e : columns_of table (pos r) ≡ length zs) (i : 0 < length zs) (s : length zs ≤ 4)
    (back : ReadBack table block ls (known_behind ks zs)) (c : Control) (line : ℕ) (done : List Line) (starts : List ℕ) (b : Below ks) where
  abbrev atom_line : Line
  atom_line = pos 4 ∷ pos r ∷ zs

  abbrev numbered_atom : Line
  numbered_atom = pos 4 ∷ pos r ∷ numbered_terms ks zs

  abbrev behind_it : ℕ → ℕ → Reading
  behind_it place line' = within place block 4 r (columns_in r - length zs) false line' (letters (known_behind ks zs)) numbered_atom done (line ∷ starts)

  abbrev rest : List ℕ
  rest = lines_from table block (map line_words ls)

  abbrev following : ℕ
  following = kind_of_first (map line_words ls)

  abbrev AtomBack : Type 0
  AtomBack = Ends (reads (standing 7 block c line (letters ks) done starts) (lines_from table block (map line_words (atom_line ∷ ls)))) (reverse done ++ (numbered_atom ∷ numbered_lines (known_behind ks zs) ls))

  atom-text : (t : List ℕ) → line_text table (line_words atom_line) 4 block following ≡ 32 ∷ ((relation_bytes r ++ terms_bytes zs) ++ t)
      → lines_from table block (map line_words (atom_line ∷ ls)) ≡ 32 ∷ (relation_bytes r ++ (terms_bytes zs ++ (t ++ rest)))
  atom-text t x =
      first-line table 4 block atom_line ls (kind-shown 4 (pos r ∷ zs) refl)
      ∙ ap (λ y. y ++ rest) x
      ∙ ap (λ y. 32 ∷ y) (append_assoc (relation_bytes r ++ terms_bytes zs) t rest ∙ append_assoc (relation_bytes r) (terms_bytes zs) (t ++ rest))

  -- what stands behind the atom leads to a place
  atom-by : (t : List ℕ) (place line' : ℕ) → line_text table (line_words atom_line) 4 block following ≡ 32 ∷ ((relation_bytes r ++ terms_bytes zs) ++ t)
      → reads (behind_it 8 line) (t ++ rest) ≡ reads (behind_it place line') rest → PlaceFor place following → AtomBack
  atom-by t place line' x y p =
      let z : reads (standing 7 block c line (letters ks) done starts) (lines_from table block (map line_words (atom_line ∷ ls))) ≡ reads (behind_it place line') rest =
      ap (reads (standing 7 block c line (letters ks) done starts)) (atom-text t x)
      ∙ blank-on (standing 7 block c line (letters ks) done starts) (relation_bytes r ++ (terms_bytes zs ++ (t ++ rest)))
      ∙ atom-line block r some short c line done starts zs (t ++ rest) ks a b (λ h. own h ∙ e) i s
      ∙ y in
      rw z (one_more (reads (behind_it place line') rest) done numbered_atom (numbered_lines (known_behind ks zs) ls)
      (back (behind_it place line').control line' (numbered_atom ∷ done) (line ∷ starts) place (terms-below zs ks a b) p))

  -- a head or nothing follows
  atom-last : following < 4 → AtomBack
  atom-last n = by (eqb block 3) refl
    where
      by : (t : Bool) → eqb block 3 ≡ t → AtomBack
      by true v =
          let q = eqb-true block 3 v in
          atom-by (32 ∷ 61 ∷ 10 ∷ []) 0 (suc line) (atom-view-end table block r zs following e n q)
          (blank-on (behind_it 8 line) (61 ∷ 10 ∷ rest) ∙ rows_next block r (columns_in r - length zs) line (letters (known_behind ks zs)) numbered_atom done (line ∷ starts) (10 ∷ rest) q ∙ no_rows block r (columns_in r - length zs) line (letters (known_behind ks zs)) numbered_atom done (line ∷ starts) rest) (head_due following n)
      by false v =
          let q = eqb-false block 3 v in
          atom-by (10 ∷ []) 0 (suc line) (atom-end table block r zs following e n q) (block-end block r (columns_in r - length zs) line (letters (known_behind ks zs)) numbered_atom done (line ∷ starts) rest q) (head_due following n)

  atom-step : (g : Seen) → g.block ≡ block → Follows g following → AtomBack
  atom-step g k f = ⊎_elim atom-last (⊎_elim more rows) f.is
    where
      more : (following ≡ 4) × (1 ≤ g.last) × (g.last ≤ 4) → AtomBack
      more n =
          atom-by (44 ∷ []) 7 line (atom-more table block r zs following e n.0) (atom-next block r (columns_in r - length zs) line (letters (known_behind ks zs)) numbered_atom done (line ∷ starts) rest)
          (atom_due following n.0)

      rows : (following ≡ 5) × (g.block ≡ 3) → AtomBack
      rows n =
          let q : block ≡ 3 = sym k ∙ n.1 in
          atom-by (32 ∷ 61 ∷ []) 9 line (atom-rows table block r zs following e n.0 q)
          (blank-on (behind_it 8 line) (61 ∷ rest) ∙ rows_next block r (columns_in r - length zs) line (letters (known_behind ks zs)) numbered_atom done (line ∷ starts) rest q)
          (row_due 9 following (inl refl) n.0)

-- ---- rows

module _ (table : Table) (block place : ℕ) (due : (place ≡ 9) ⊎ (place ≡ 10)) (zs : List ℤ) (ls : List Line) (ks : List ℕ) (a : all constant zs ≡ true) (s : length zs ≤ 4)
    (back : ReadBack table block ls ks) (c : Control) (line : ℕ) (done : List Line) (starts : List ℕ) (b : Below ks) where
  abbrev row_line : Line
  row_line = pos 5 ∷ zs

  abbrev after_row : ℕ
  after_row = kind_of_first (map line_words ls)

  abbrev RowBack : Type 0
  RowBack = Ends (reads (standing place block c line (letters ks) done starts) (lines_from table block (map line_words (row_line ∷ ls)))) (reverse done ++ (row_line ∷ numbered_lines ks ls))

  row_by : (more : Bool) → line_text table (line_words row_line) 5 block after_row ≡ 32 ∷ (row_values zs ++ (end_sign more ∷ [])) → PlaceFor (end_place more) after_row → RowBack
  row_by more x p =
      let after = lines_from table block (map line_words ls) in
      let d = row-line block place due c line done starts zs after ks more a b s in
      let q = standing (end_place more) block d.0 (end_line more line) (letters ks) (row_line ∷ done) (line ∷ starts) in
      let z : reads (standing place block c line (letters ks) done starts) (lines_from table block (map line_words (row_line ∷ ls))) ≡ reads q after =
      ap (reads (standing place block c line (letters ks) done starts)) (first-line table 5 block row_line ls (kind-shown 5 zs refl) ∙ ap (λ y. y ++ after) x ∙ ap (λ y. 32 ∷ y) (append_assoc (row_values zs) (end_sign more ∷ []) after))
      ∙ blank-on (standing place block c line (letters ks) done starts) (row_values zs ++ (end_sign more ∷ after))
      ∙ d.1 in
      rw z (one_more (reads q after) done row_line (numbered_lines ks ls) (back d.0 (end_line more line) (row_line ∷ done) (line ∷ starts) (end_place more) b p))

  row_step : (g : Seen) → g.last ≡ 5 → Follows g after_row → RowBack
  row_step g k f = ⊎_elim last (⊎_elim (λ n. absurd (let m = n.2 in omega arith)) more) f.is
    where
      last : after_row < 4 → RowBack
      last n = row_by false (row-end table block zs after_row (omega arith) n) (head_due after_row n)

      more : (after_row ≡ 5) × (g.block ≡ 3) → RowBack
      more n =
          row_by true (row_more table block zs after_row (omega arith) n.0) (row_due 10 after_row (inr refl) n.0)

-- ---- a line by its kind

question-at : (block : ℕ) → block ≡ 0 → HeadAt block 1
unfolding token_mark token_kind next_block
question-at block e = record { mark = refl; apart = refl; next = rw e; same = refl; low = refl; no-atom = refl; no_row = refl }

list_at : (block : ℕ) → 1 ≤ block → block ≤ 2 → HeadAt block 2
unfolding token_mark token_kind next_block
list_at block l h = record { mark = refl; apart = refl; next = by (eqb block 1) refl; same = refl; low = refl; no-atom = refl; no_row = refl }
  where
    by : (t : Bool) → eqb block 1 ≡ t → next_block block (letter_of 2) ≡ 2
    by true e = let q = eqb-true block 1 e in rw q
    by false e = let q = eqb-false block 1 e in let two : block ≡ 2 = omega arith in rw two

view-at : (block : ℕ) → 2 ≤ block → HeadAt block 3
unfolding token_mark token_kind next_block
view-at block l = record { mark = refl; apart = refl; next = by (eqb block 2) refl; same = refl; low = refl; no-atom = refl; no_row = refl }
  where
    by : (t : Bool) → eqb block 2 ≡ t → next_block block (letter_of 3) ≡ 3
    by true e = let q = eqb-true block 2 e in rw q
    by false e = rw (ne_eqb block 0 (λ i. omega arith), ne_eqb block 1 (λ i. omega arith), e)

-- a relation that has columns has a number that a text can have
numbered : (table : Table) → Named table → (r : ℕ) → (columns_of table (pos r) ≡ 0 → ⊥) → (0 < r) × (r < field_end)
unfolding columns_of relation
numbered table named zero h = absurd (h refl)
numbered table named (suc r) h = (omega arith, ⊎_elim (λ l. l) (λ l. absurd (h (named.short (suc r) l))) (less? (suc r) field_end))

line_step : (table : Table) → Named table → (l : Line) (ls : List Line) (g : Seen) (ks : List ℕ) → Clean table g l → Follows (next g l) (kind_of_first (map line_words ls)) → (is_head (kind l) ≡ true → kind_of_first (map line_words ls) ≡ 4)
    → ReadBack table (next g l).block ls (known_behind (known_in ks l) (terms_in l)) → ReadBack table g.block (l ∷ ls) ks
unfolding kind_of next numbered_lines columns_of
line_step table named [] ls g ks q f h back = true-false q.formed
line_step table named (negsuc v ∷ zs) ls g ks q f h back = no_way q.placed
line_step table named (pos zero ∷ zs) ls g ks q f h back = no_way q.placed
line_step table named (pos (suc zero) ∷ zs) ls g ks q f h back =
    let n = leb-true (suc (length zs)) 5 q.sized in
    head_step table 1 g.block (question-at g.block (eqb-true g.block 0 q.placed)) refl zs ls ks (not-false (all term zs) q.ranged) (omega arith) (h refl) refl back
line_step table named (pos (suc (suc zero)) ∷ zs) ls g ks q f h back =
    let n = leb-true (suc (length zs)) 5 q.sized in
    let p = both (leb 1 g.block) (leb g.block 2) q.placed in
    head_step table 2 g.block (list_at g.block (leb-true 1 g.block p.0) (leb-true g.block 2 p.1)) refl zs ls ks (not-false (all term zs) q.ranged) (omega arith) (h refl) refl back
line_step table named (pos (suc (suc (suc zero))) ∷ zs) ls g ks q f h back =
    let n = leb-true (suc (length zs)) 5 q.sized in
    head_step table 3 g.block (view-at g.block (leb-true 2 g.block q.placed)) refl zs ls ks (not-false (all term zs) q.ranged) (omega arith) (h refl) refl back
line_step table named (pos (suc (suc (suc (suc zero)))) ∷ []) ls g ks q f h back = no_way q.sized
line_step table named (pos (suc (suc (suc (suc zero)))) ∷ negsuc v ∷ zs) ls g ks q f h back = by q.columns
  where
    by : {A : Type 0} → (eqb (columns_of table (negsuc v)) 0 || not (eqb (columns_of table (negsuc v)) (length zs))) ≡ false → A
    by e = true-false e
line_step table named (pos (suc (suc (suc (suc zero)))) ∷ pos r ∷ zs) ls g ks q f h back = λ c line done starts place b p.
    let n = both (leb 3 (suc (suc (length zs)))) (leb (suc (suc (length zs))) 6) q.sized in
    let n0 = leb-true 3 (suc (suc (length zs))) n.0 in
    let n1 = leb-true (suc (suc (length zs))) 6 n.1 in
    let m = neither (eqb (columns_of table (pos r)) 0) (not (eqb (columns_of table (pos r)) (length zs))) q.columns in
    let t = numbered table named r (eqb-false (columns_of table (pos r)) 0 m.0) in
    let o : place ≡ 7 = p.atom (kind-shown 4 (pos r ∷ zs) refl) in
    rw o (atom-step table g.block r zs ls ks t.0 t.1 (λ h. sym (named.own r h)) (not-false (all term zs) q.ranged) (eqb-true (columns_of table (pos r)) (length zs) (not-false (eqb (columns_of table (pos r)) (length zs)) m.1)) (omega arith) (omega arith) back c line done starts b (next g (pos 4 ∷ pos r ∷ zs)) refl f)
line_step table named (pos (suc (suc (suc (suc (suc zero))))) ∷ zs) ls g ks q f h back = λ c line done starts place b p.
    let n = leb-true (suc (length zs)) 5 q.sized in
    let a = not-false (all constant zs) q.ranged in
    let k = constants-kept zs ks a in
    rw (k.0, k.1) (row_step table g.block place (p.row (kind-shown 5 zs refl)) zs ls ks a (omega arith) (rw k.1 at back) c line done starts b (next g (pos 5 ∷ zs)) refl f)
line_step table named (pos (suc (suc (suc (suc (suc (suc n)))))) ∷ zs) ls g ks q f h back = no_other g (suc (suc (suc (suc (suc (suc n)))))) zs (omega arith) q.placed

-- ---- all lines

-- the end of the text at the start of a line
end_read : (block : ℕ) (c : Control) (line : ℕ) (ns : List (List ℕ)) (done : List Line) (starts : List ℕ)
    → reads (standing 0 block c line ns done starts) [] ≡ standing 0 block (record { place = 0; block = block; kind = c.kind; relation = c.relation; left = c.left; bare = c.bare; expected = 0; begins = false; puts = false }) (suc line) ns done starts
unfolding behind read_all read step step_from start_at token_mark
end_read block c line ns done starts = refl

no_line : (table : Table) (block : ℕ) (ks : List ℕ) → ReadBack table block [] ks
unfolding lines_from numbered_lines
no_line table block ks c line done starts place b p = let o : place ≡ 0 = p.head (omega arith) in
    rw (o, end_read block c line (letters ks) done starts) (record { fits = refl; lines = sym (append-nil (reverse done)) })

lines-run : (table : Table) → Named table → (ls : List Line) (g : Seen) (before : Line) (n m : ℕ) (ks : List ℕ) → eqb (scan table g before n ls).number 0 ≡ true → eqb (heads m ls).number 0 ≡ true → ReadBack table g.block ls ks
lines-run table named [] g before n m ks s h = no_line table g.block ks
lines-run table named (l ∷ ls) g before n m ks s h =
    let a = scan-on table g before l n ls s in
    let b = heads-on l m ls h in
    line_step table named l ls g ks (clean_line table g before l a.0) (line_follows table (next g l) l (n + 1) ls a.1) (head_follows l ls b.0) (lines-run table named ls (next g l) l (n + 1) (m + 1) (known_behind (known_in ks l) (terms_in l)) a.1 b.1)

-- the text of accepted lines, from its start
pub start-run : (table : Table) → Named table → (ls : List Line) → (refusal_of table ls).number ≡ 0 → Ends (reads unread (lines_from table 0 (map line_words ls))) (numbered_lines [] ls)
unfolding refusal_of
start-run table named ls e =
    let s = accepted-scan table ls e in
    let h : (heads 1 ls).number ≡ 0 = rw s at e in
    lines-run table named ls start [] 1 1 [] s (eq-eqb (heads 1 ls).number 0 h) unread.control 1 [] [] 0 tt (head_due (kind_of_first (map line_words ls)) (first_head (kind_of_first (map line_words ls)) (line_follows table start [] 1 ls s)))
  where
    first_head : (n : ℕ) → Follows start n → n < 4
    first_head n f = ⊎_elim (λ l. l) (⊎_elim (λ q. absurd (let m = q.1 in omega arith)) (λ q. absurd (let m = q.1 in omega arith))) f.is
