-- What the refusals of a front say of the whole, and what a sheet that is not refused has.
use mathlib.Core.Path.{◌≡◌, refl, sym, ap, ◌∙◌}
use mathlib.Core.Bool.{Bool, true, false, cond, not, ◌&&◌}
use mathlib.Core.List.{List, [], ◌∷◌, ◌++◌}
use Prim.Native.Nat.{ℕ, ◌+◌, ◌-◌, ◌*◌, ◌≤◌, ◌<◌, min}
use native.Mathlib.Omega.{arith}
use lib.Dec.{eqb, ltb, leb}
use lib.ListN.{length}
use borrow.Author.Tests.{eqb-true, eqb-false, leb-true, leb-false, ltb-true, ltb-false, not-false}
use Rattle.sheet_format.specs.Limits.{most_lists, most_views, most_rows, most_lines}
use Rattle.sheet_format.specs.Line.{Line, all, null}
use Rattle.sheet_format.specs.Table.{Table}
use Rattle.sheet_format.specs.Cause.{Kind, question, saved, view, atom, row, other, kind, in_place, possible, misplaced, wrong_columns, out_of_range, too_many_blocks, atoms_of, cause, start, next_by, next, refusal, missing, scan, heads, unsafe, atoms, refusal_of}
use Rattle.sheet_format.specs.Answers.{Refusal}
use Rattle.sheet_format.specs.Answers.{Seen}
use Rattle.sheet_format.proofs.Lists.{true-false, both, passed}

-- a missing block names no line
missing-line : (g : Seen) → (missing g).line ≡ 0
missing-line g = go (ltb g.block 2)
  where
    go : (t : Bool) → (cond t (refusal 3 0) (refusal 0 0)).line ≡ 0
    go true = refl
    go false = refl

-- k lines lead to g: each block has its head and its atoms, and the views their rows
record LinesWithin (g : Seen) (k : ℕ) : Type 0 where
  lines : k ≤ 7 * g.lists + 4 * g.views + g.rows + g.atoms + min g.block 1 + 3 * (g.block - 2)
  blocks : g.block ≤ 3
  lasts : g.last ≤ 5 * g.block
  no-atoms : g.atoms ≤ 6 * g.block
  some-atoms : g.atoms ≤ 6 - 3 * (g.block - 2)
  some-lists : g.lists ≤ most_lists
  some-views : g.views ≤ most_views
  some-rows : g.rows ≤ most_rows

within-start : LinesWithin start 0
within-start = omega arith

atoms-left : (g : Seen) → g.block ≤ 3 → leb (atoms_of g.block) g.atoms ≡ false → g.atoms < 6 - 3 * (g.block - 2)
atoms-left g b e = go (eqb g.block 3) refl (leb-false (atoms_of g.block) g.atoms e)
  where
    go : (t : Bool) → eqb g.block 3 ≡ t → g.atoms < cond t 3 6 → g.atoms < 6 - 3 * (g.block - 2)
    go true f h = let q = eqb-true g.block 3 f in omega arith
    go false f h = let q = eqb-false g.block 3 f in omega arith

within-next : (g : Seen) (c : Kind) (n k : ℕ) → LinesWithin g k → in_place g c ≡ true → too_many_blocks g c ≡ false → LinesWithin (next_by g c n) (k + 1)
within-next g question n k w p r = let e = eqb-true g.block 0 p in omega arith
within-next g saved n k w p r = let q = both (leb 1 g.block) (leb g.block 2) p in let e = leb-true 1 g.block q.0 in let f = leb-true g.block 2 q.1 in let h = leb-false most_lists g.lists r in omega arith
within-next g view n k w p r = let e = leb-true 2 g.block p in let f = leb-false most_views g.views r in omega arith
within-next g atom n k w p r = let e = leb-true 1 g.last (both _ _ p).0 in let f = atoms-left g w.blocks r in omega arith
within-next g row n k w p r = let e = eqb-true g.block 3 (both _ _ p).0 in let f = leb-false most_rows g.rows r in omega arith
within-next g other n k w p r = true-false (sym p)

module _ (table : Table) where
  -- ---- a line without a cause

  pub record Clean (g : Seen) (l : Line) : Type 0 where
    pub formed : null l ≡ false
    pub placed : in_place g (kind l) ≡ true
    pub sized : possible (kind l) (length l) ≡ true
    pub columns : wrong_columns table (kind l) l ≡ false
    pub ranged : out_of_range (kind l) l ≡ false
    pub room : too_many_blocks g (kind l) ≡ false

  pub clean_line : (g : Seen) (b l : Line) → eqb (cause table g b l) 0 ≡ true → Clean g l
  unfolding cause
  clean_line g b l e =
      let p2 = passed (null l) 2 _ refl e in
      let p3 = passed (misplaced g l) 3 _ refl p2.1 in
      let p4 = passed (wrong_columns table (kind l) l) 4 _ refl p3.1 in
      let p5 = passed (out_of_range (kind l) l) 5 _ refl p4.1 in
      let p6 = passed (too_many_blocks g (kind l)) 6 _ refl p5.1 in
      let q = both _ _ (not-false _ p3.0) in
      record { formed = p2.0; placed = q.0; sized = q.1; columns = p4.0; ranged = p5.0; room = p6.0 }

  -- ---- a refusal by its line

  -- a refusal that names a line has a number
  pub scan-number : (p : List Line) (g : Seen) (b : Line) (n : ℕ) → 0 < (scan table g b n p).line → eqb (scan table g b n p).number 0 ≡ false
  unfolding scan
  scan-number [] g b n h = let e = missing-line g in absurd (omega arith)
  scan-number (l ∷ p) g b n h = go (scan-number p (next g l) l (n + 1)) (eqb (cause table g b l) 0) refl h
    where
      r : Refusal
      r = scan table (next g l) l (n + 1) p

      go : (0 < r.line → eqb r.number 0 ≡ false) → (t : Bool) → eqb (cause table g b l) 0 ≡ t → 0 < (cond t r (refusal (cause table g b l) n)).line → eqb (cond t r (refusal (cause table g b l) n)).number 0 ≡ false
      go ih true e h = ih h
      go ih false e h = e

  -- a refusal at a line of the front stands, whatever follows
  pub scan-front : (p q : List Line) (g : Seen) (b : Line) (n : ℕ) → 1 ≤ n → (0 < (scan table g b n p).line) → scan table g b n (p ++ q) ≡ scan table g b n p
  unfolding scan
  scan-front [] q g b n le h = let e = missing-line g in absurd (omega arith)
  scan-front (l ∷ p) q g b n le h = go (scan-front p q (next g l) l (n + 1) (omega arith)) (eqb (cause table g b l) 0) h
    where
      s : List Line → Refusal
      s = scan table (next g l) l (n + 1)

      go : (0 < (s p).line → s (p ++ q) ≡ s p) → (t : Bool) → 0 < (cond t (s p) (refusal (cause table g b l) n)).line → cond t (s (p ++ q)) (refusal (cause table g b l) n) ≡ cond t (s p) (refusal (cause table g b l) n)
      go ih true h = ih h
      go ih false h = refl

  -- the lines' own refusal comes before the heads'
  by-scan : (p : List Line) → eqb (scan table start [] 1 p).number 0 ≡ false → refusal_of table p ≡ scan table start [] 1 p
  unfolding refusal_of
  by-scan p e = simp e

  pub refused-front : (p q : List Line) → 0 < (scan table start [] 1 p).line → refusal_of table (p ++ q) ≡ refusal_of table p
  refused-front p q h =
      let e = scan-front p q start [] 1 (omega arith) h in
      let f = scan-number p start [] 1 h in
      by-scan (p ++ q) (ap (λ r. eqb r.number 0) e ∙ f) ∙ e ∙ sym (by-scan p f)

  -- and its number is not 0
  pub refused-number : (p : List Line) → 0 < (scan table start [] 1 p).line → eqb (refusal_of table p).number 0 ≡ false
  refused-number p h = let f = scan-number p start [] 1 h in ap (λ r. eqb r.number 0) (by-scan p f) ∙ f

  -- a step of the scan: the line is refused, or it goes on
  at-line : (g : Seen) (b l : Line) (n : ℕ) (p : List Line) → 1 ≤ n
      → (eqb (cause table g b l) 0 ≡ true → 0 < (scan table (next g l) l (n + 1) p).line) → 0 < (scan table g b n (l ∷ p)).line
  unfolding scan
  at-line g b l n p le h = go (eqb (cause table g b l) 0) h
    where
      go : (t : Bool) → (t ≡ true → 0 < (scan table (next g l) l (n + 1) p).line) → 0 < (cond t (scan table (next g l) l (n + 1) p) (refusal (cause table g b l) n)).line
      go true f = f refl
      go false f = le

  -- a malformed line among them is refused at its line or before
  scan_malformed_from : (p : List Line) (g : Seen) (b : Line) (n : ℕ) → 1 ≤ n → 0 < (scan table g b n (p ++ ([] ∷ []))).line
  scan_malformed_from [] g b n le = at-line g b [] n [] le (λ e. true-false (clean_line g b [] e).formed)
  scan_malformed_from (l ∷ p) g b n le = at-line g b l n (p ++ ([] ∷ [])) le (λ e. scan_malformed_from p (next g l) l (n + 1) (omega arith))

  pub scan_malformed : (p : List Line) → 0 < (scan table start [] 1 (p ++ ([] ∷ []))).line
  scan_malformed p = scan_malformed_from p start [] 1 (omega arith)

  -- ---- how many lines there can be

  scan-long-from : (p : List Line) (g : Seen) (b : Line) (n k : ℕ) → 1 ≤ n → LinesWithin g k → most_lines < k + length p → 0 < (scan table g b n p).line
  unfolding next
  scan-long-from [] g b n k le w h = absurd (omega arith)
  scan-long-from (l ∷ p) g b n k le w h =
      at-line g b l n p le
      (λ e. let q = clean_line g b l e in
      scan-long-from p (next g l) l (n + 1) (k + 1) (omega arith) (within-next g (kind l) _ k w q.placed q.room) (omega arith))

  -- more lines than that are refused at a line
  pub scan-long : (p : List Line) → most_lines < length p → 0 < (scan table start [] 1 p).line
  scan-long p h = scan-long-from p start [] 1 0 (omega arith) within-start (omega arith)

  -- ---- nothing is refused

  pub accepted-scan : (p : List Line) → (refusal_of table p).number ≡ 0 → eqb (scan table start [] 1 p).number 0 ≡ true
  accepted-scan p h = go (eqb (scan table start [] 1 p).number 0) refl
    where
      go : (t : Bool) → eqb (scan table start [] 1 p).number 0 ≡ t → t ≡ true
      go true e = refl
      go false e = absurd (eqb-false _ _ e (sym (ap (λ r. r.number) (by-scan p e)) ∙ h))

  pub lines-formed : (p : List Line) (g : Seen) (b : Line) (n : ℕ) → eqb (scan table g b n p).number 0 ≡ true → all (λ l. not (null l)) p ≡ true
  unfolding scan
  lines-formed [] g b n h = refl
  lines-formed (l ∷ p) g b n h = go (lines-formed p (next g l) l (n + 1)) (eqb (cause table g b l) 0) refl h
    where
      r : Refusal
      r = scan table (next g l) l (n + 1) p

      go : (eqb r.number 0 ≡ true → all (λ l. not (null l)) p ≡ true) → (t : Bool) → eqb (cause table g b l) 0 ≡ t
          → eqb (cond t r (refusal (cause table g b l) n)).number 0 ≡ true → all (λ l. not (null l)) (l ∷ p) ≡ true
      go ih true e h = let f = (clean_line g b l e).formed in rw f (ih h)
      go ih false e h = true-false (sym h ∙ e)

  -- no line is malformed
  pub accepted-lines : (p : List Line) → (refusal_of table p).number ≡ 0 → all (λ l. not (null l)) p ≡ true
  accepted-lines p h = lines-formed p start [] 1 (accepted-scan p h)

  -- there are no more lines than that
  pub accepted-length : (p : List Line) → (refusal_of table p).number ≡ 0 → length p ≤ most_lines
  accepted-length p h = go (ltb most_lines (length p)) refl
    where
      go : (t : Bool) → ltb most_lines (length p) ≡ t → length p ≤ most_lines
      go true e = true-false (sym (accepted-scan p h) ∙ scan-number p start [] 1 (scan-long p (ltb-true _ _ e)))
      go false e = ltb-false _ _ e

-- a head's refusal names its line
pub heads_line : (p : List Line) (n : ℕ) → 1 ≤ n → eqb (heads n p).number 0 ≡ false → 0 < (heads n p).line
unfolding heads
heads_line [] n le h = true-false h
heads_line (l ∷ p) n le h = go (heads_line p (n + 1) (omega arith)) (unsafe l (atoms p)) h
  where
    r : Refusal
    r = heads (n + 1) p

    go : (eqb r.number 0 ≡ false → 0 < r.line) → (t : Bool) → eqb (cond t (refusal 8 n) r).number 0 ≡ false → 0 < (cond t (refusal 8 n) r).line
    go ih true h = le
    go ih false h = ih h
