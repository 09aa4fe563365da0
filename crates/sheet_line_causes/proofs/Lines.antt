-- A line's fields, and its cause by its kind, in terms of its words. Assumes nothing.
use mathlib.Core.Path.{◌≡◌, refl, sym, ap, ◌∙◌}
use mathlib.Core.Bool.{Bool, true, false, cond, not, ◌&&◌, ◌||◌}
use mathlib.Core.List.{List, [], ◌∷◌}
use Prim.Native.Nat.{ℕ, zero, suc, ◌<◌, ◌≤◌, ◌+◌, ◌-◌}
use native.Mathlib.Nat.{add_comm}
use native.Mathlib.Numerals.{add-one}
use native.Mathlib.Omega.{arith}
use borrow.Author.Tests.{leb-true, leb-false, le-leb, lt-leb, eq-eqb, ne_eqb}
use lib.Dec.{eqb, leb}
use lib.IntN.{ℤ, pos}
use lib.ListN.{length, get_or, take, drop}
use lib.Seq.{slice, slice-cons, slice_empty, length-slice, take_all, take-nil, drop-drop}
use Rattle.std.proofs.lemmas.List.{drop-take}
use Rattle.sheet_format.specs.Limits.{most_lists}
use Rattle.sheet_format.specs.Field.{fits}
use Rattle.sheet_format.specs.Line.{Line, all, count, is_zero, word_line, well_formed_words}
use Rattle.sheet_format.specs.Cause.{Kind, rest, second, terms, term, constant, above, atoms_of, cause, in_place, possible, wrong_columns, out_of_range, too_many_blocks, kind_of, next, next_by, step_of}
use Rattle.sheet_format.specs.Cause.Kind.{question, saved, view, atom, row}
use Rattle.sheet_format.specs.Table.{Table, columns_of}
use Rattle.sheet_format.specs.Answers.{Seen}
use Rattle.sheet_format.specs.Answers.LineStep.{Goes, Stops}
use Rattle.sheet_line_causes.specs.Parts.{cause_by, CountedFields, count_of_fields, fields}

-- ---- the fields by the words

-- a part of the words, as a slice of it has them
pub part-is : (a b : ℕ) (ws : List ℤ) → a ≤ b → take (b - a) (drop a ws) ≡ slice a b ws
part-is a b ws h = let e : b ≡ a + (b - a) = omega arith in sym (ap (λ k. drop a (take k ws)) e ∙ drop-take a (b - a) ws)

fields-are : (n : ℕ) (ws : List ℤ) → fields n ws ≡ take n (drop 1 ws)
fields-are n [] = ap (drop 1) (take-nil (n + 1)) ∙ sym (take-nil n)
fields-are n (w ∷ ws) = rw add-one

unused-are : (n : ℕ) (ws : List ℤ) → length ws ≡ 7 → slice (n + 1) 7 ws ≡ drop n (drop 1 ws)
unused-are n ws h =
    let k : length ws ≤ 7 = omega arith in
    ap (drop (n + 1)) (take_all 7 ws k) ∙ ap (λ m. drop m ws) (add_comm n 1) ∙ sym (drop-drop n 1 ws)

fields-count : (n : ℕ) (ws : List ℤ) → length ws ≡ 7 → n ≤ 6 → length (fields n ws) ≡ n
fields-count n ws h l =
    let k : n + 1 ≤ length ws = omega arith in
    length-slice 1 (n + 1) ws k ∙ omega arith

line-by : (ws : List ℤ) (k : ℕ) → count ws ≡ k
    → word_line ws ≡ cond (leb 1 k && (leb k 6 && (all fits (take k (drop 1 ws)) && all is_zero (drop k (drop 1 ws))))) (take k (drop 1 ws)) []
unfolding word_line
line-by ws k e = rw (← e)

cond-length : (b : Bool) (l : List ℤ) (k : ℕ) → length l ≡ k → length (cond b l []) ≡ cond b k 0
cond-length true l k e = e
cond-length false l k e = refl

none-past : (ws : List ℤ) → 6 < count ws → word_line ws ≡ []
none-past ws l =
    let k : 1 ≤ count ws = omega arith in
    rw (line-by ws (count ws) refl, le-leb 1 (count ws) k, lt-leb (count ws) 6 l)

same : {A : Type 0} (b : Bool) (x : A) → x ≡ cond b x x
same true x = refl
same false x = refl

-- the fields of a line by its field count
line-count : (ws : List ℤ) (n : ℕ) → length ws ≡ 7 → n ≡ count_of_fields (get_or ws 0 (pos 0))
    → length (word_line ws) ≡ cond (all fits (slice 1 (n + 1) ws) && all is_zero (slice (n + 1) 7 ws)) n 0
line-count ws n h e = go (leb (count ws) 6) refl
  where
    fit : ℕ → Bool
    fit n = all fits (slice 1 (n + 1) ws) && all is_zero (slice (n + 1) 7 ws)

    at : (k : ℕ) → count ws ≡ k → k ≤ 6 → length (word_line ws) ≡ cond (fit k) k 0
    at zero d m = rw (line-by ws 0 d) (same (fit 0) 0)
    at (suc k) d m =
        rw (line-by ws (suc k) d, le-leb 1 (suc k) (omega arith), le-leb (suc k) 6 m, fields-are (suc k) ws, unused-are (suc k) ws h)
        (cond-length (all fits (take (suc k) (drop 1 ws)) && all is_zero (drop (suc k) (drop 1 ws))) (take (suc k) (drop 1 ws)) (suc k)
        (ap length (sym (fields-are (suc k) ws)) ∙ fields-count (suc k) ws h m))

    go : (b : Bool) → leb (count ws) 6 ≡ b → length (word_line ws) ≡ cond (fit n) n 0
    go true d =
        let f = rw d at e in
        let m = leb-true (count ws) 6 d in
        at n (sym f) (omega arith)
    go false d =
        let f = rw d at e in
        ap length (none-past ws (leb-false (count ws) 6 d)) ∙ rw f (same (fit 0) 0)

-- with what the tests of its fields and of its unused words tell
pub line-told : (ws : List ℤ) (n : ℕ) → length ws ≡ 7 → n ≡ count_of_fields (get_or ws 0 (pos 0))
    → (f z : Bool) → f ≡ all fits (slice 1 (n + 1) ws) → z ≡ all is_zero (slice (n + 1) 7 ws) → cond (f && z) n 0 ≡ length (word_line ws)
line-told ws n h e f z d c = sym (line-count ws n h e ∙ rw (← d, ← c))

line-is : (ws : List ℤ) → (k : ℕ) × (k ≤ 6) × (word_line ws ≡ fields k ws)
unfolding word_line
line-is ws = go (leb (count ws) 6) refl
  where
    pick : count ws ≤ 6 → (b : Bool) → (k : ℕ) × (k ≤ 6) × (cond b (take (count ws) (drop 1 ws)) [] ≡ fields k ws)
    pick m true = (count ws, m, sym (fields-are (count ws) ws))
    pick m false = (0, omega arith, sym (slice_empty 1 ws))

    go : (b : Bool) → leb (count ws) 6 ≡ b → (k : ℕ) × (k ≤ 6) × (word_line ws ≡ fields k ws)
    go true e = pick (leb-true (count ws) 6 e) (well_formed_words ws)
    go false e = (0, omega arith, none-past ws (leb-false (count ws) 6 e) ∙ sym (slice_empty 1 ws))

-- a line is the fields that it counts, at most six
pub line-fields : (ws : List ℤ) → length ws ≡ 7 → (word_line ws ≡ fields (length (word_line ws)) ws) × (length (word_line ws) ≤ 6)
line-fields ws h =
    let (k, m, e) = line-is ws in
    let l : length (word_line ws) ≡ k = ap length e ∙ fields-count k ws h m in
    (e ∙ ap (λ n. fields n ws) (sym l), omega arith)

-- ---- the parts of a line

rest-is : (l : List ℤ) → rest l ≡ drop 1 l
rest-is [] = refl
rest-is (z ∷ l) = refl

pub fields-rest : (n : ℕ) (ws : List ℤ) → rest (fields n ws) ≡ slice 2 (n + 1) ws
fields-rest n ws = rest-is (fields n ws) ∙ drop-drop 1 1 (take (n + 1) ws)

line-rest : (ws : List ℤ) → length ws ≡ 7 → rest (word_line ws) ≡ slice 2 (length (word_line ws) + 1) ws
line-rest ws h = ap rest (line-fields ws h).0 ∙ fields-rest (length (word_line ws)) ws

-- the order against the columns of the line before, which has m fields
pub line-above : (ws l : List ℤ) (m : ℕ) (r : Bool) → length ws ≡ 7 → m ≡ length (word_line ws) → r ≡ above (slice 2 (m + 1) ws) l → r ≡ above (rest (word_line ws)) l
line-above ws l m r h e d = d ∙ ap (λ k. above (slice 2 (k + 1) ws) l) e ∙ ap (λ k. above k l) (sym (line-rest ws h))

-- the causes of an atom in its place, whose relation has k columns
abbrev pub atom_rest : Seen → ℕ → List ℤ → ℕ → ℕ
atom_rest g n ws k =
    cond (eqb k 0 || not (eqb k (n - 2))) 4
    (cond (not (all term (slice 3 (n + 1) ws))) 5
    (cond (leb (atoms_of g.block) g.atoms) 6 0))

-- the causes of a row in its place, whose columns are constants or not
abbrev pub row_rest : Seen → Line → ℕ → List ℤ → Bool → ℕ
row_rest g b n ws r =
    cond (not r) 5
    (cond (leb 40 g.rows) 6
    (cond (not (eqb (n - 1) g.columns)) 7
    (cond (eqb g.last 5 && not (above (rest b) (slice 2 (n + 1) ws))) 9 0)))

module _ {ws : List ℤ} {n : ℕ} (h : CountedFields ws n) where
  pub fields-length : length (fields n ws) ≡ n
  fields-length = fields-count n ws h.seven h.most

  pub fields_cons : fields n ws ≡ get_or ws 1 (pos 0) ∷ slice 2 (n + 1) ws
  fields_cons =
      let k : n + 1 ≤ length ws = omega arith in
      slice-cons 1 (n + 1) ws (pos 0) (omega arith) k

  pub rest-length : length (slice 2 (n + 1) ws) ≡ n - 1
  rest-length =
      let k : n + 1 ≤ length ws = omega arith in
      length-slice 2 (n + 1) ws k ∙ omega arith

  -- of a line of two fields or more
  pub rest_cons : 2 ≤ n → slice 2 (n + 1) ws ≡ get_or ws 2 (pos 0) ∷ slice 3 (n + 1) ws
  rest_cons l =
      let k : n + 1 ≤ length ws = omega arith in
      slice-cons 2 (n + 1) ws (pos 0) (omega arith) k

  pub fields-second : 2 ≤ n → second (fields n ws) ≡ get_or ws 2 (pos 0)
  fields-second l = rw (fields_cons, rest_cons l)

  pub fields-terms : 2 ≤ n → terms (fields n ws) ≡ slice 3 (n + 1) ws
  fields-terms l = rw (fields_cons, rest_cons l)

  pub terms-length : length (slice 3 (n + 1) ws) ≡ n - 2
  terms-length =
      let k : n + 1 ≤ length ws = omega arith in
      length-slice 3 (n + 1) ws k ∙ omega arith

  -- ---- the cause of each kind

  module _ (table : Table) (g : Seen) where
    pub question-cause : cause_by table g [] question (fields n ws)
        ≡ cond (not (eqb g.block 0 && leb n 5)) 3 (cond (not (all term (slice 2 (n + 1) ws))) 5 0)
    question-cause = rw (fields-rest n ws, fields-length)

    pub saved-cause : cause_by table g [] saved (fields n ws)
        ≡ cond (not ((leb 1 g.block && leb g.block 2) && leb n 5)) 3 (cond (not (all term (slice 2 (n + 1) ws))) 5 (cond (leb most_lists g.lists) 6 (cond (not (eqb (n - 1) g.asked)) 7 0)))
    saved-cause = rw (fields-rest n ws, fields-length, rest-length)

    pub view-cause : cause_by table g [] view (fields n ws)
        ≡ cond (not (leb 2 g.block && leb n 5)) 3 (cond (not (all term (slice 2 (n + 1) ws))) 5 (cond (leb 8 g.views) 6 0))
    view-cause = rw (fields-rest n ws, fields-length)

    -- an atom in its place, whose relation has k columns
    pub atom-cause : in_place g atom ≡ true → 3 ≤ n → (k : ℕ) → k ≡ columns_of table (get_or ws 2 (pos 0)) → cause_by table g [] atom (fields n ws) ≡ atom_rest g n ws k
    atom-cause p l k e =
        let m : 2 ≤ n = omega arith in
        rw (p, fields-terms m, fields-second m, fields-length, terms-length, le-leb 3 n l, le-leb n 6 h.most, ← e)

    pub atom-misplaced : in_place g atom ≡ false → cause_by table g [] atom (fields n ws) ≡ 3
    atom-misplaced p = rw p

    pub atom-short : in_place g atom ≡ true → n < 3 → cause_by table g [] atom (fields n ws) ≡ 3
    atom-short p l = rw (p, fields-length, lt-leb 3 n l)

    -- a row of n fields
    pub row-place : (b : Line) → cause_by table g b row (fields n ws) ≡ cond (not (eqb g.block 3 && leb 4 g.last && leb n 5)) 3 (row_rest g b n ws (all constant (slice 2 (n + 1) ws)))
    row-place b = rw (fields-rest n ws, fields-length, rest-length)

    -- a row in its place, whose columns are constants or not
    pub row-cause : (b : Line) → g.block ≡ 3 → 4 ≤ g.last → n ≤ 5 → (r : Bool) → r ≡ all constant (slice 2 (n + 1) ws) → cause_by table g b row (fields n ws) ≡ row_rest g b n ws r
    row-cause b p q l r e = row-place b ∙ rw (eq-eqb g.block 3 p, le-leb 4 g.last q, le-leb n 5 l, ← e)

-- ---- a line that goes on has room for one more

pub atoms-most : (b : ℕ) → atoms_of b ≤ 6
atoms-most b = go (eqb b 3)
  where
    go : (t : Bool) → cond t 3 6 ≤ 6
    go true = omega arith
    go false = omega arith

passed : (a : Bool) (v x : ℕ) → cond a (suc v) x ≡ 0 → (a ≡ false) × (x ≡ 0)
passed true v x e = absurd (omega arith)
passed false v x e = (refl, e)

pub room : (table : Table) (g : Seen) (b : Line) (k : Kind) (l : Line) (n : ℕ) → n ≡ cause_by table g b k l → n ≡ 0 → too_many_blocks g k ≡ false
room table g b k l n d z =
    let e : cause_by table g b k l ≡ 0 = sym d ∙ z in
    (passed (too_many_blocks g k) 5 _ (passed (out_of_range k l) 4 _ (passed (wrong_columns table k l) 3 _ (passed (not (in_place g k && possible k (length l))) 2 _ e).1).1).1).0

-- ---- the step

pub counted : (ws : List ℤ) (n : ℕ) → length ws ≡ 7 → n ≡ length (word_line ws) → (n ≡ 0 → ⊥) → CountedFields ws n
counted ws n h e z =
    let m = (line-fields ws h).1 in
    record { seven = h; least = omega (arith, z); most = omega arith }

step-none : (table : Table) (g : Seen) (b l : Line) → length l ≡ 0 → step_of table g b l ≡ Stops 2
unfolding step_of cause
step-none table g b [] e = refl
step-none table g b (z ∷ l) e = absurd (omega arith)

pub step_malformed : (table : Table) (g : Seen) (b : Line) (ws : List ℤ) (n : ℕ) → n ≡ length (word_line ws) → n ≡ 0 → Stops 2 ≡ step_of table g b (word_line ws)
step_malformed table g b ws n e z = sym (step-none table g b (word_line ws) (sym e ∙ z))

module _ (table : Table) (g : Seen) (b : Line) (ws : List ℤ) (n : ℕ) (h : CountedFields ws n) (e : n ≡ length (word_line ws)) where
  line-is-fields : word_line ws ≡ get_or ws 1 (pos 0) ∷ slice 2 (n + 1) ws
  line-is-fields = (line-fields ws h.seven).0 ∙ ap (λ k. fields k ws) (sym e) ∙ fields_cons h

  line-cause : cause table g b (word_line ws) ≡ cause_by table g b (kind_of (get_or ws 1 (pos 0))) (fields n ws)
  unfolding cause
  line-cause = rw (line-is-fields, fields_cons h)

  pub step-stops : (k : ℕ) → k ≡ cause_by table g b (kind_of (get_or ws 1 (pos 0))) (fields n ws) → (k ≡ 0 → ⊥) → Stops k ≡ step_of table g b (word_line ws)
  unfolding step_of
  step-stops k c z = rw (line-cause, ← c, ne_eqb k 0 z)

  pub step-goes : (k : ℕ) → k ≡ cause_by table g b (kind_of (get_or ws 1 (pos 0))) (fields n ws) → k ≡ 0 → Goes (next_by g (kind_of (get_or ws 1 (pos 0))) (n - 1)) ≡ step_of table g b (word_line ws)
  unfolding step_of next
  step-goes k c z = rw (line-cause, ← c, z, line-is-fields, rest-length h)
