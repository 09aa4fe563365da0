-- An accepted sheet has at most 41 copies and the size 126: at most 40 listed rows, 6 atoms in the question and 3 in a view.
use mathlib.Core.Path.{◌≡◌, refl, sym, ◌∙◌, subst}
use mathlib.Core.Bool.{true, false, cond}
use mathlib.Core.List.{List, [], ◌∷◌, map}
use mathlib.Core.Logic.{inl, inr}
use Prim.Native.Nat.{ℕ, suc, ◌+◌, ◌*◌, ◌≤◌, ◌<◌}
use native.Mathlib.Nat.{mul-le-mul_left}
use native.Mathlib.Omega.{arith}
use lib.Dec.{eqb}
use lib.ListN.{length, length-map, drop}
use borrow.Author.Tests.{eqb-true, leb-false}
use Rattle.tableau_layout.specs.Layout.{most_copies, copied_atoms}
use Rattle.sheet_format.specs.Table.{Table}
use Rattle.sheet_format.specs.Line.{Line, natural}
use Rattle.sheet_format.specs.Cause.{Kind, question, saved, view, atom, row, other, kind, rest, too_many_blocks, start, next_by, next, scan, is_atom, atoms, refusal_of}
use Rattle.sheet_format.specs.Answers.{Seen}
use Rattle.sheet_format.proofs.Lists.{no_way}
use Rattle.sheet_format.proofs.ScanLaws.{accepted-scan}
use Rattle.query_meaning.specs.Meaning.{In}
use Rattle.query_meaning.specs.Blocks.{View, is_row, rows, view_of, atom_of, blocks}
use Rattle.query_meaning.specs.Facts.{value_end}
use Rattle.query_blocks.proofs.Accepted.{scan-first, no-atoms, front-atoms}
use Rattle.case_verdicts.specs.Handed.{row_atoms, size}
use Rattle.case_verdicts.specs.Accepted.{width}
use Rattle.case_verdicts.specs.Tableau.{listed, jobs}
use Rattle.case_verdicts.specs.Sheets.{top, is_question, is_view_kind, sheet_of}
use Rattle.case_verdicts.proofs.Lists.{total, total-same, gather-length}
use Rattle.case_verdicts.proofs.Accepted.{accepted-read, first_block, questions_head}

-- ---- the rows of all views are lines of kind 5, each of one view

abbrev one : Kind → ℕ
one k = cond (is_row k) 1 0

-- how many of the lines are rows
abbrev row_lines : List Line → ℕ
row_lines ls = total (λ l. one (kind l)) ls

-- the rows after the atoms at the front
abbrev front : List Line → ℕ
front ls = length (rows (drop (length (atoms ls)) ls))

abbrev front_by_kind : List Line → Kind → ℕ
front_by_kind ls question = 0
front_by_kind ls saved = 0
front_by_kind ls view = 0
front_by_kind ls atom = front ls
front_by_kind ls row = suc (length (rows ls))
front_by_kind ls other = 0

front_by : (l : Line) (ls : List Line) (k : Kind) → kind l ≡ k → front (l ∷ ls) ≡ front_by_kind ls k
unfolding atoms rows
front_by l ls question e = simp e
front_by l ls saved e = simp e
front_by l ls view e = simp e
front_by l ls atom e = simp e
front_by l ls row e = simp e
front_by l ls other e = simp e

-- rows at the very front are also rows after the atoms
rows-front : (ls : List Line) → length (rows ls) ≤ front ls
unfolding rows
rows-front [] = omega arith
rows-front (l ∷ ls) = let f = front_by l ls (kind l) refl in go (kind l) refl f
  where
    go : (k : Kind) → kind l ≡ k → front (l ∷ ls) ≡ front_by_kind ls k → length (cond (is_row k) (map natural (rest l) ∷ rows ls) []) ≤ front (l ∷ ls)
    go question e f = omega arith
    go saved e f = omega arith
    go view e f = omega arith
    go atom e f = omega arith
    go row e f = omega arith
    go other e f = omega arith

abbrev rows_of : List View → ℕ
rows_of ws = total (λ (w : View). length w.rows) ws

no_front : front [] ≡ 0
unfolding atoms rows
no_front = refl

listed-lines : (ls : List Line) → rows_of (blocks is_view_kind ls) + front ls ≤ row_lines ls
unfolding blocks
listed-lines [] = let e = no_front in omega arith
listed-lines (l ∷ ls) = go (kind l) (front_by l ls (kind l) refl) (listed-lines ls)
  where
    go : (k : Kind) → front (l ∷ ls) ≡ front_by_kind ls k → rows_of (blocks is_view_kind ls) + front ls ≤ row_lines ls → rows_of (cond (is_view_kind k) (view_of l ls ∷ blocks is_view_kind ls) (blocks is_view_kind ls)) + front (l ∷ ls) ≤ one k + row_lines ls
    go question f ih = omega arith
    go saved f ih = omega arith
    go view f ih = omega arith
    go atom f ih = omega arith
    go row f ih = let r = rows-front ls in omega arith
    go other f ih = omega arith

-- ---- at most 40 lines are rows

next-rows : (g : Seen) (k : Kind) (n : ℕ) → g.rows ≤ 40 → too_many_blocks g k ≡ false → ((next_by g k n).rows ≡ one k + g.rows) × ((next_by g k n).rows ≤ 40)
next-rows g question n h e = (omega arith, h)
next-rows g saved n h e = (omega arith, h)
next-rows g view n h e = (omega arith, h)
next-rows g atom n h e = (omega arith, h)
next-rows g row n h e = let r = leb-false 40 g.rows e in (omega arith, omega arith)
next-rows g other n h e = (omega arith, h)

few_rows : (table : Table) (ls : List Line) (g : Seen) (b : Line) (n : ℕ) → g.rows ≤ 40 → (scan table g b n ls).number ≡ 0 → g.rows + row_lines ls ≤ 40
unfolding next
few_rows table [] g b n h s = omega arith
few_rows table (l ∷ ls) g b n h s =
    let (c, r) = scan-first table l ls g b n s in
    let (e, k) = next-rows g (kind l) (length (rest l)) h c.room in
    let i = few_rows table ls (next g l) l (n + 1) k r in
    omega arith

-- ---- atoms

-- a view has at most 3
few-atoms : (table : Table) (ls : List Line) (g : Seen) (b : Line) (n : ℕ) → g.block ≡ 3 → g.atoms ≤ 3 → (scan table g b n ls).number ≡ 0 → length (atoms ls) + g.atoms ≤ 3
unfolding atoms next
few-atoms table [] g b n v h s = omega arith
few-atoms table (l ∷ ls) g b n v h s =
    let (c, r) = scan-first table l ls g b n s in
    go (kind l) c.room (λ w i. few-atoms table ls (next g l) l (n + 1) w i r)
  where
    go : (k : Kind) → too_many_blocks g k ≡ false → (((next_by g k (length (rest l))).block ≡ 3) → ((next_by g k (length (rest l))).atoms ≤ 3) → length (atoms ls) + (next_by g k (length (rest l))).atoms ≤ 3)
        → length (cond (is_atom k) (l ∷ atoms ls) []) + g.atoms ≤ 3
    go question e ih = omega arith
    go saved e ih = omega arith
    go view e ih = omega arith
    go atom e ih =
        let m = leb-false (cond (eqb g.block 3) 3 6) g.atoms e in
        let q : g.atoms < 3 = subst (λ z. g.atoms < cond (eqb z 3) 3 6) v m in
        let i = ih v (omega arith) in
        omega arith
    go row e ih = omega arith
    go other e ih = omega arith

module _ (table : Table) (ls : List Line) (ok : (refusal_of table ls).number ≡ 0) where
  rows_few : rows_of (blocks is_view_kind ls) ≤ 40
  rows_few =
      let s = few_rows table ls start [] 1 (omega arith) (eqb-true _ 0 (accepted-scan table ls ok)) in
      let l = listed-lines ls in
      omega arith

  pub accepted-jobs : length (jobs (sheet_of table ls)) ≤ most_copies
  accepted-jobs =
      let e = gather-length listed (blocks is_view_kind ls) ∙ total-same (λ w. length (listed w)) (λ w. length w.rows) (λ w. length-map w.rows _) (blocks is_view_kind ls) in
      let r = rows_few in
      omega arith

  view-atoms : (w : View) → In w (blocks is_view_kind ls) → length w.block.atoms ≤ 3
  unfolding next
  view-atoms w m =
      let r = accepted-read table ls ok is_view_kind w m in
      let (b, a) = go r.before (kind r.line) (length (rest r.line)) r.chosen in
      let h = few-atoms table r.after (next r.before r.line) r.line r.number b (omega arith) r.scanned in
      let l = length-map (atoms r.after) atom_of in
      subst (λ (v : View). length v.block.atoms ≤ 3) (sym r.is) (omega arith)
    where
      go : (g : Seen) (k : Kind) (n : ℕ) → is_view_kind k ≡ true → ((next_by g k n).block ≡ 3) × ((next_by g k n).atoms ≡ 0)
      go g question n e = no_way e
      go g saved n e = no_way e
      go g view n e = (refl, refl)
      go g atom n e = no_way e
      go g row n e = no_way e
      go g other n e = no_way e

  question-atoms : length (sheet_of table ls).question.atoms ≤ 6
  unfolding next
  question-atoms = first_block (λ b. length b.atoms ≤ 6) (omega arith) (blocks is_question ls) (λ w m.
      let r = accepted-read table ls ok is_question w m in
      let z = no-atoms r.before (kind r.line) (length (rest r.line)) (questions_head (kind r.line) r.chosen) in
      let h = (front-atoms table r.after (next r.before r.line) r.line r.number (omega arith) r.scanned).1 in
      let l = length-map (atoms r.after) atom_of in
      subst (λ (v : View). length v.block.atoms ≤ 6) (sym r.is) (omega arith))

  rows-most : (ws : List View) → ((w : View) → In w ws → length w.block.atoms ≤ 3) → row_atoms ws ≤ rows_of ws * 3
  rows-most [] few = omega arith
  rows-most (w ∷ ws) few =
      let h = mul-le-mul_left (length w.rows) (few w (inl refl)) in
      let r = rows-most ws (λ v m. few v (inr m)) in
      omega arith

  pub accepted-size : size (sheet_of table ls) ≤ copied_atoms
  accepted-size =
      let q = question-atoms in
      let r = rows_few in
      let w = rows-most (blocks is_view_kind ls) view-atoms in
      omega arith

  -- made-up values for all slots lie below the end of the values
  pub accepted-room : top + length (jobs (sheet_of table ls)) * width ≤ value_end
  unfolding width
  accepted-room = let j = accepted-jobs in omega arith
