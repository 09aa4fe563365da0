-- The sheet that accepted lines mean is accepted, and its blocks can be evaluated.
use mathlib.Core.Path.{◌≡◌, refl, sym, ap, ◌∙◌, subst}
use mathlib.Core.Bool.{Bool, true, false, cond, not, ◌&&◌, ◌||◌}
use mathlib.Core.List.{List, [], ◌∷◌, map}
use mathlib.Core.Logic.{inl, inr}
use Prim.Native.Nat.{ℕ, suc, ◌+◌, ◌<◌, ◌≤◌}
use native.Mathlib.Omega.{arith}
use lib.Dec.{eqb, ltb}
use lib.IntN.{ℤ, pos, negsuc}
use lib.ListN.{length, length-map, drop}
use borrow.Author.Tests.{eqb-true, eqb-false, ltb-true, not-true, not-false}
use Rattle.sheet_format.specs.Limits.{constant_end, most_variables}
use Rattle.sheet_format.specs.Table.{Table, columns_of}
use Rattle.sheet_format.specs.Line.{Line, all, null, natural}
use Rattle.sheet_format.specs.Cause.{Kind, question, saved, view, atom, row, other, kind, rest, second, terms, or_out, term_of, is_term, is_constant, term, constant, in_place, misplaced, wrong_columns, out_of_range, too_many_blocks, wrong_length, cause, start, next_by, next, refusal, scan, is_head, is_atom, atoms, same, occurs, bound, unsafe, heads, refusal_of}
use Rattle.sheet_format.specs.Answers.{Refusal}
use Rattle.sheet_format.specs.Answers.{Seen}
use Rattle.sheet_format.specs.Answers.{FieldTerm}
use Rattle.sheet_format.specs.Answers.FieldTerm.{Constant, Variable, OutOfRange}
use Rattle.sheet_format.proofs.Lists.{no_way, passed}
use Rattle.sheet_format.proofs.ScanLaws.{accepted-scan}
use Rattle.query_meaning.specs.Meaning.{var, Block, In}
use Rattle.query_meaning.specs.Blocks.{View, as_term, atom_of, block_of, is_row, rows, view_of, blocks, nowhere, nth}
use Rattle.query_blocks.proofs.Accepted.{neither, Clean, scan-first, heads-first, accepted-heads, AtomLine, AtomLines, HeadLine, head-line, front-atoms, no-atoms}
use Rattle.query_blocks.proofs.Shape.{all_in, some_in, in_map, from-map, atom_in, same_word}
use Rattle.case_verdicts.specs.Table.{relation, Sound}
use Rattle.case_verdicts.specs.Accepted.{width, FineTerm, Fine, FineAtom, FineBlock, FineSheet, variable, Bound, Safe, Evaluable}
use Rattle.case_verdicts.specs.Sheets.{top, is_question, is_saved, is_view_kind, question_in, views_in, sheet_of}
use Rattle.case_verdicts.proofs.Lists.{in-gather}

-- ---- words

in-range : (t : Bool) (u : FieldTerm) → is_term (or_out t u) ≡ true → t ≡ true
in-range true u e = refl
in-range false u e = e

fine-word : (z : ℤ) → term z ≡ true → FineTerm top (as_term z)
unfolding term_of width
fine-word (pos n) e = ltb-true n constant_end (in-range (ltb n constant_end) (Constant n) e)
fine-word (negsuc n) e = let h = ltb-true n most_variables (in-range (ltb n most_variables) (Variable (suc n)) e) in omega arith

fine-words : (zs : List ℤ) → all term zs ≡ true → Fine top (map as_term zs)
fine-words zs h t m = let (z, i, e) = from-map as_term zs t m in subst (FineTerm top) (sym e) (fine-word z (all_in term zs z h i))

is-term : (u : FieldTerm) → is_constant u ≡ true → is_term u ≡ true
is-term (Constant n) e = refl
is-term (Variable n) e = refl
is-term OutOfRange e = e

row_word : (z : ℤ) → constant z ≡ true → natural z < top
row_word (pos n) e = fine-word (pos n) (is-term (term_of (pos n)) e)
row_word (negsuc n) e = omega arith

-- ---- atoms

atom-columns : (table : Table) (k : Line) → AtomLine table k → length (terms k) ≡ (relation table (natural (second k))).columns
unfolding columns_of
atom-columns table k a =
    let (r, e) = a.relation in
    a.columns ∙ ap (columns_of table) e ∙ ap (λ z. (relation table (natural z)).columns) (sym e)

atom-fine : (table : Table) (k : Line) → AtomLine table k → FineAtom top table (atom_of k)
atom-fine table k a = record {
  terms = fine-words (terms k) a.ranged;
  known = let c = atom-columns table k a in let s = a.some in omega arith;
  full = length-map (terms k) as_term ∙ atom-columns table k a;
}

-- ---- one block: its head is the line l, and ls are the lines after it

module _ (table : Table) (l : Line) (ls : List Line) where
  -- a head's word that the atoms bind is a constant or one of their variables
  bound-word : (z : ℤ) → bound (atoms ls) z ≡ true → Bound (block_of l ls) (as_term z)
  bound-word (pos n) h = tt
  bound-word (negsuc n) h =
      let (a, i, e) = some_in (λ a. not (occurs (negsuc n) (terms a))) (atoms ls) (not-true _ h) in
      let (z, j, f) = some_in (λ t. not (same (negsuc n) t)) (terms a) (not-true _ (not-false _ e)) in
      let g = same_word (negsuc n) z (not-false _ f) in
      in-gather _ (atom_of a) (suc n) (map atom_of (atoms ls)) (in_map atom_of (atoms ls) a i)
      (in-gather variable (var (suc n)) (suc n) (map as_term (terms a)) (subst (λ w. In (as_term w) (map as_term (terms a))) (sym g) (in_map as_term (terms a) z j)) (inl refl))

  block-safe : all (bound (atoms ls)) (rest l) ≡ true → Safe (block_of l ls)
  block-safe h = record {
    head = λ t m. let (z, i, e) = from-map as_term (rest l) t m in subst (Bound (block_of l ls)) (sym e) (bound-word z (all_in (bound (atoms ls)) (rest l) z h i));
    apart = λ d m. absurd m;
  }

  block-fine : HeadLine l → AtomLines table (atoms ls) → FineBlock top table (block_of l ls)
  block-fine h us = record {
    head = fine-words (rest l) h.ranged;
    atoms = λ a m. let (k, i, e) = from-map atom_of (atoms ls) a m in subst (FineAtom top table) (sym e) (atom-fine table k (atom_in table (atoms ls) k us i));
    apart = λ d m. absurd m;
  }

-- ---- the listed rows of a view, by what its head leaves

-- a step of the scan, with the line's cause
scan_step : (table : Table) (l : Line) (ls : List Line) (g : Seen) (b : Line) (n : ℕ) → (scan table g b n (l ∷ ls)).number ≡ 0 → (eqb (cause table g b l) 0 ≡ true) × ((scan table (next g l) l (n + 1) ls).number ≡ 0)
unfolding scan
scan_step table l ls g b n h = go (eqb (cause table g b l) 0) refl h
  where
    r : Refusal
    r = scan table (next g l) l (n + 1) ls

    go : (t : Bool) → eqb (cause table g b l) 0 ≡ t → (cond t r (refusal (cause table g b l) n)).number ≡ 0 → (eqb (cause table g b l) 0 ≡ true) × (r.number ≡ 0)
    go true e f = (e, f)
    go false e f = absurd (eqb-false (cause table g b l) 0 e f)

-- a test on the way to 0 was not met
-- without a cause, neither 5 nor 7 holds
no-cause : (table : Table) (g : Seen) (b l : Line) → eqb (cause table g b l) 0 ≡ true → (out_of_range (kind l) l ≡ false) × (wrong_length g (kind l) l ≡ false)
unfolding cause
no-cause table g b l e =
    let p2 = passed (null l) 2 _ refl e in
    let p3 = passed (misplaced g l) 3 _ refl p2.1 in
    let p4 = passed (wrong_columns table (kind l) l) 4 _ refl p3.1 in
    let p5 = passed (out_of_range (kind l) l) 5 _ refl p4.1 in
    let p6 = passed (too_many_blocks g (kind l)) 6 _ refl p5.1 in
    (p5.0, (passed (wrong_length g (kind l) l) 7 _ refl p6.1).0)

-- as long as the view's head, and of constants
pub record RowFine (columns : ℕ) (r : List ℕ) : Type 0 where
  pub long : length r ≡ columns
  pub small : (n : ℕ) → In n r → n < top

-- a head leaves its own length
head-columns : (g : Seen) (k : Kind) (n : ℕ) → is_head k ≡ true → (next_by g k n).columns ≡ n
head-columns g question n t = refl
head-columns g saved n t = refl
head-columns g view n t = refl
head-columns g atom n t = no_way t
head-columns g row n t = no_way t
head-columns g other n t = no_way t

-- the rows at the front, by the columns of the head before them
front-rows : (table : Table) (ls : List Line) (g : Seen) (b : Line) (n : ℕ) → (scan table g b n ls).number ≡ 0 → (r : List ℕ) → In r (rows ls) → RowFine g.columns r
unfolding rows next
front-rows table [] g b n h r m = absurd m
front-rows table (l ∷ ls) g b n h r m =
    let (c, s) = scan_step table l ls g b n h in
    let (p, q) = no-cause table g b l c in
    go (kind l) p q (front-rows table ls (next g l) l (n + 1) s r) m
  where
    go : (k : Kind) → out_of_range k l ≡ false → wrong_length g k l ≡ false → (In r (rows ls) → RowFine (next_by g k (length (rest l))).columns r)
        → In r (cond (is_row k) (map natural (rest l) ∷ rows ls) []) → RowFine g.columns r
    go question p q ih i = absurd i
    go saved p q ih i = absurd i
    go view p q ih i = absurd i
    go atom p q ih i = absurd i
    go row p q ih (inl e) = subst (RowFine g.columns) (sym e) (record {
      long = length-map (rest l) natural ∙ eqb-true _ _ (not-false _ q);
      small = λ n m. let (z, i, e) = from-map natural (rest l) n m in subst (λ k. k < top) (sym e) (row_word z (all_in constant (rest l) z (not-false _ p) i));
    })
    go row p q ih (inr i) = ih i
    go other p q ih i = absurd i

-- and after the atoms
later_rows : (table : Table) (ls : List Line) (g : Seen) (b : Line) (n : ℕ) → (scan table g b n ls).number ≡ 0 → (r : List ℕ) → In r (rows (drop (length (atoms ls)) ls)) → RowFine g.columns r
unfolding atoms next
later_rows table [] g b n h r m = front-rows table [] g b n h r m
later_rows table (l ∷ ls) g b n h r m = go (kind l) (later_rows table ls (next g l) l (n + 1) (scan_step table l ls g b n h).1 r) m
  where
    go : (k : Kind) → (In r (rows (drop (length (atoms ls)) ls)) → RowFine (next_by g k (length (rest l))).columns r)
        → In r (rows (drop (length (cond (is_atom k) (l ∷ atoms ls) [])) (l ∷ ls))) → RowFine g.columns r
    go question ih i = front-rows table (l ∷ ls) g b n h r i
    go saved ih i = front-rows table (l ∷ ls) g b n h r i
    go view ih i = front-rows table (l ∷ ls) g b n h r i
    go atom ih i = ih i
    go row ih i = front-rows table (l ∷ ls) g b n h r i
    go other ih i = front-rows table (l ∷ ls) g b n h r i

-- ---- the list's head is as long as the question's

-- after the question's head
saved-long : (table : Table) (ls : List Line) (g : Seen) (b : Line) (n : ℕ) → 1 ≤ g.block → (scan table g b n ls).number ≡ 0 → (w : View) → In w (blocks is_saved ls) → length w.block.head ≡ g.asked
unfolding blocks next
saved-long table [] g b n late h w m = absurd m
saved-long table (l ∷ ls) g b n late h w m =
    let (c, s) = scan_step table l ls g b n h in
    go (kind l) (scan-first table l ls g b n h).0.placed (no-cause table g b l c).1 (λ k. saved-long table ls (next g l) l (n + 1) k s w) m
  where
    go : (k : Kind) → in_place g k ≡ true → wrong_length g k l ≡ false → (1 ≤ (next_by g k (length (rest l))).block → In w (blocks is_saved ls) → length w.block.head ≡ (next_by g k (length (rest l))).asked)
        → In w (cond (is_saved k) (view_of l ls ∷ blocks is_saved ls) (blocks is_saved ls)) → length w.block.head ≡ g.asked
    go question p q ih i = absurd (let e = eqb-true g.block 0 p in omega arith)
    go saved p q ih (inl e) = ap (λ (v : View). length v.block.head) e ∙ length-map (rest l) as_term ∙ eqb-true _ _ (not-false _ q)
    go saved p q ih (inr i) = ih (omega arith) i
    go view p q ih i = ih (omega arith) i
    go atom p q ih i = ih late i
    go row p q ih i = ih late i
    go other p q ih i = no_way p

-- from the first line on
question-long : (table : Table) (ls : List Line) → (scan table start [] 1 ls).number ≡ 0 → (w : View) → In w (blocks is_saved ls) → length w.block.head ≡ length (nth (blocks is_question ls) 0).block.head
unfolding blocks next
question-long table [] h w m = absurd m
question-long table (l ∷ ls) h w m =
    let (c, s) = scan_step table l ls start [] 1 h in
    go (kind l) (scan-first table l ls start [] 1 h).0.placed (λ k. saved-long table ls (next start l) l 2 k s w) m
  where
    go : (k : Kind) → in_place start k ≡ true → (1 ≤ (next_by start k (length (rest l))).block → In w (blocks is_saved ls) → length w.block.head ≡ (next_by start k (length (rest l))).asked)
        → In w (cond (is_saved k) (view_of l ls ∷ blocks is_saved ls) (blocks is_saved ls)) → length w.block.head ≡ length (nth (cond (is_question k) (view_of l ls ∷ blocks is_question ls) (blocks is_question ls)) 0).block.head
    go question p ih i = ih (omega arith) i ∙ sym (length-map (rest l) as_term)
    go saved p ih i = no_way p
    go view p ih i = no_way p
    go atom p ih i = no_way p
    go row p ih i = no_way p
    go other p ih i = no_way p

-- ---- the blocks of accepted lines

-- the block of a head that passes the test, and what is known of it
pub record BlockRead (table : Table) (p : Kind → Bool) (w : View) : Type 0 where
  pub line : Line
  pub after : List Line
  pub before : Seen
  pub number : ℕ
  pub is : w ≡ view_of line after
  pub chosen : p (kind line) ≡ true
  pub clean : Clean table before line
  pub scanned : (scan table (next before line) line number after).number ≡ 0
  pub safe : unsafe line (atoms after) ≡ false

blocks-read : (table : Table) (p : Kind → Bool) (ls : List Line) (g : Seen) (b : Line) (n m : ℕ) → (scan table g b n ls).number ≡ 0 → (heads m ls).number ≡ 0 → (w : View) → In w (blocks p ls) → BlockRead table p w
unfolding blocks
blocks-read table p [] g b n m s h w i = absurd i
blocks-read table p (l ∷ ls) g b n m s h w i =
    go (blocks-read table p ls (next g l) l (n + 1) (m + 1) (scan-first table l ls g b n s).1 (heads-first l ls m h).1 w) (p (kind l)) refl i
  where
    go : (In w (blocks p ls) → BlockRead table p w) → (t : Bool) → p (kind l) ≡ t → In w (cond t (view_of l ls ∷ blocks p ls) (blocks p ls)) → BlockRead table p w
    go ih true e (inl q) = record {
      line = l;
      after = ls;
      before = g;
      number = n + 1;
      is = q;
      chosen = e;
      clean = (scan-first table l ls g b n s).0;
      scanned = (scan-first table l ls g b n s).1;
      safe = (heads-first l ls m h).0;
    }
    go ih true e (inr j) = ih j
    go ih false e j = ih j

module _ (table : Table) (p : Kind → Bool) (heads-only : (k : Kind) → p k ≡ true → is_head k ≡ true) where
  read-fine : (w : View) → BlockRead table p w → FineBlock top table w.block
  unfolding next
  read-fine w r =
      let l = r.line in
      let e = heads-only (kind l) r.chosen in
      let z = no-atoms r.before (kind l) (length (rest l)) e in
      let a = front-atoms table r.after (next r.before l) l r.number (omega arith) r.scanned in
      subst (λ (v : View). FineBlock top table v.block) (sym r.is) (block-fine table l r.after (head-line table r.before l r.clean e) a.0)

  read-safe : (w : View) → BlockRead table p w → Safe w.block
  read-safe w r =
      let l = r.line in
      let ts = atoms r.after in
      let u = neither (null ts) (not (all (bound ts) (rest l))) (sym (ap (λ t. t && (null ts || not (all (bound ts) (rest l)))) (heads-only (kind l) r.chosen)) ∙ r.safe) in
      subst (λ (v : View). Safe v.block) (sym r.is) (block-safe table l r.after (not-false _ u.1))

  read-rows : (w : View) → BlockRead table p w → (u : List ℕ) → In u w.rows → RowFine (length w.block.head) u
  unfolding next
  read-rows w r u i =
      let l = r.line in
      let f = later_rows table r.after (next r.before l) l r.number r.scanned u (subst (λ (v : View). In u v.rows) r.is i) in
      let c = head-columns r.before (kind l) (length (rest l)) (heads-only (kind l) r.chosen) in
      subst (λ (v : View). RowFine (length v.block.head) u) (sym r.is) (subst (λ k. RowFine k u) (c ∙ sym (length-map (rest l) as_term)) f)

pub questions_head : (k : Kind) → is_question k ≡ true → is_head k ≡ true
questions_head question e = refl
questions_head saved e = refl
questions_head view e = refl
questions_head atom e = e
questions_head row e = e
questions_head other e = e

saved-head : (k : Kind) → is_saved k ≡ true → is_head k ≡ true
saved-head question e = refl
saved-head saved e = refl
saved-head view e = refl
saved-head atom e = e
saved-head row e = e
saved-head other e = e

views-head : (k : Kind) → is_view_kind k ≡ true → is_head k ≡ true
views-head question e = refl
views-head saved e = refl
views-head view e = refl
views-head atom e = e
views-head row e = e
views-head other e = e

-- what is so of every block, and where there is none, is so of the first
pub first_block : (P : Block → Type 0) → P nowhere.block → (ws : List View) → ((w : View) → In w ws → P w.block) → P (nth ws 0).block
first_block P p [] each = p
first_block P p (w ∷ ws) each = each w (inl refl)

module _ (table : Table) (ls : List Line) (ok : (refusal_of table ls).number ≡ 0) where
  pub accepted-read : (p : Kind → Bool) (w : View) → In w (blocks p ls) → BlockRead table p w
  accepted-read p = blocks-read table p ls start [] 1 1 (eqb-true _ 0 (accepted-scan table ls ok)) (accepted-heads table ls ok)

  list_read : (l : Block) → In l (sheet_of table ls).lists → (w : View) × BlockRead table is_saved w × (l ≡ w.block)
  list_read l m = let (w, i, e) = from-map (λ (w : View). w.block) (blocks is_saved ls) l m in (w, accepted-read is_saved w i, e)

  pub asked-fine : FineBlock top table (question_in ls)
  asked-fine = first_block (FineBlock top table) (record { head = λ t m. absurd m; atoms = λ a m. absurd m; apart = λ d m. absurd m }) (blocks is_question ls)
      (λ w m. read-fine table is_question questions_head w (accepted-read is_question w m))

  pub listed-fine : (w : View) → In w (views_in ls) → FineBlock top table w.block
  listed-fine w m = read-fine table is_view_kind views-head w (accepted-read is_view_kind w m)

  pub accepted-sheet : Sound table → FineSheet top (sheet_of table ls)
  accepted-sheet sound = record {
    table = sound;
    question = asked-fine;
    lists = λ l m. let (w, r, e) = list_read l m in subst (FineBlock top table) (sym e) (read-fine table is_saved saved-head w r);
    views = listed-fine;
    rows = λ w m r i. (read-rows table is_view_kind views-head w (accepted-read is_view_kind w m) r i).small;
    lengths = λ w m r i. (read-rows table is_view_kind views-head w (accepted-read is_view_kind w m) r i).long;
  }

  pub accepted-lists : (l : Block) → In l (sheet_of table ls).lists → length l.head ≡ length (sheet_of table ls).question.head
  accepted-lists l m =
      let (w, i, e) = from-map (λ (w : View). w.block) (blocks is_saved ls) l m in
      ap (λ (b : Block). length b.head) e ∙ question-long table ls (eqb-true _ 0 (accepted-scan table ls ok)) w i

  pub accepted_evaluable : Evaluable (sheet_of table ls)
  accepted_evaluable = record {
    lists = λ l m. let (w, r, e) = list_read l m in subst Safe (sym e) (read-safe table is_saved saved-head w r);
    views = λ w m. read-safe table is_view_kind views-head w (accepted-read is_view_kind w m);
  }

  pub accepted-question : Safe (sheet_of table ls).question
  accepted-question = first_block Safe (record { head = λ t m. absurd m; apart = λ d m. absurd m }) (blocks is_question ls)
      (λ w m. read-safe table is_question questions_head w (accepted-read is_question w m))
