-- The blocks of an accepted sheet, stored one by one. Assumes nothing.
use mathlib.Core.Path.{◌≡◌, refl, sym, ap, ◌∙◌, subst}
use mathlib.Core.Bool.{Bool, true, false, cond, ◌||◌}
use mathlib.Core.List.{List, [], ◌∷◌}
use mathlib.Core.Logic.{◌⊎◌, inl, inr, ⊎_elim}
use Prim.Native.Nat.{ℕ, suc, ◌+◌, ◌-◌, ◌*◌, ◌<◌, ◌≤◌}
use native.Mathlib.Omega.{arith}
use native.Mathlib.Numerals.{add-one}
use lib.Dec.{eqb, ltb, leb}
use lib.ListN.{length, get_or, drop, length-map, drop_of_length-le}
use lib.Seq.{ext_get_or}
use borrow.Author.Count.{below_more}
use borrow.Author.Tests.{eqb-true, leb-true, leb-false, le-leb, lt-leb, ltb-true, ltb-false, ne_eqb, not-true, not-false}
use Rattle.sheet_format.specs.Limits.{most_lists, most_views}
use Rattle.query_layout.specs.Layout.{block_width}
use Rattle.tableau_layout.specs.Layout.{blocks_at, most_blocks, plan_numbers, question_block, list_block, view_block}
use Rattle.list_laws.proofs.Lists.{part_get, part_length, drop-next}
use Rattle.sheet_format.proofs.Lists.{neither}
use Rattle.sheet_format.specs.Table.{Table}
use Rattle.sheet_format.specs.Line.{Line}
use Rattle.sheet_format.specs.Cause.{Kind, question, saved, view, atom, row, other, kind, rest, too_many_blocks, start, next_by, next, scan}
use Rattle.sheet_format.specs.Answers.{Seen}
use Rattle.sheet_format.proofs.ScanLaws.{accepted-scan}
use Rattle.query_meaning.specs.Blocks.{View, view_of, blocks, all_blocks, block_at}
use Rattle.query_encoding.specs.Encoding.{BlockNumbers, BlockFound, has_block}
use Rattle.query_blocks.proofs.Accepted.{scan-first}
use Rattle.case_verdicts.specs.Sheets.{is_saved, is_view_kind, lists_in}
use Rattle.case_verdicts.proofs.Order.{block-question, lists_few, block-list, block_view, block-count}
use Rattle.tableau_plan.specs.Plan.{block_numbers, block_size}
use Rattle.tableau_plan.specs.Parts.{BlockStored, Blocks, place_of}
use Rattle.query_blocks.specs.Parts.{AcceptedLines}
use Rattle.tableau_plan.proofs.Laws.{part_same}

-- ---- at most eight views

next-views : (g : Seen) (k : Kind) (n : ℕ) (v : View) (ws : List View) → g.views ≤ most_views → too_many_blocks g k ≡ false → ((next_by g k n).views ≤ most_views → (next_by g k n).views + length ws ≤ most_views) → g.views + length (cond (is_view_kind k) (v ∷ ws) ws) ≤ most_views
next-views g question n v ws h e ih = ih h
next-views g saved n v ws h e ih = ih h
next-views g view n v ws h e ih = let r = leb-false most_views g.views e in let i = ih (omega arith) in omega arith
next-views g atom n v ws h e ih = ih h
next-views g row n v ws h e ih = ih h
next-views g other n v ws h e ih = ih h

few_views : (table : Table) (ls : List Line) (g : Seen) (b : Line) (n : ℕ) → g.views ≤ most_views → (scan table g b n ls).number ≡ 0 → g.views + length (blocks is_view_kind ls) ≤ most_views
unfolding next blocks
few_views table [] g b n h s = omega arith
few_views table (l ∷ ls) g b n h s =
    let (c, r) = scan-first table l ls g b n s in
    next-views g (kind l) (length (rest l)) (view_of l ls) (blocks is_view_kind ls) h c.room (λ i. few_views table ls (next g l) l (n + 1) i r)

pub accepted-views : (ls : List Line) → AcceptedLines ls → length (blocks is_view_kind ls) ≤ most_views
accepted-views ls ok = let h = few_views ok.0 ls start [] 1 (omega arith) (eqb-true _ 0 (accepted-scan ok.0 ls ok.1)) in omega arith

-- ---- whether there is a block

is_block : (ls : List Line) (k : ℕ) → has_block ls k ≡ true → k ≤ length (all_blocks ls)
is_block ls k e = ltb-false (length (all_blocks ls)) k (neither (eqb k 0) (ltb (length (all_blocks ls)) k) (not-true _ e)).1

no_block : (ls : List Line) (b : ℕ) → has_block ls (b + 1) ≡ false → length (all_blocks ls) ≤ b
no_block ls b e =
    let f : (eqb (b + 1) 0 || ltb (length (all_blocks ls)) (b + 1)) ≡ true = not-false (eqb (b + 1) 0 || ltb (length (all_blocks ls)) (b + 1)) e in
    let g : eqb (b + 1) 0 ≡ false = ne_eqb (b + 1) 0 (λ z. omega arith) in
    let h = ltb-true (length (all_blocks ls)) (b + 1) (ap (λ t. t || ltb (length (all_blocks ls)) (b + 1)) (sym g) ∙ f) in
    omega arith

-- ---- how many lists there are, line by line

module _ (l : Line) (ls : List Line) where
  one_list : kind l ≡ saved → length (blocks is_saved (l ∷ ls)) ≡ suc (length (blocks is_saved ls))
  unfolding blocks
  one_list e = simp e

  no-list : is_saved (kind l) ≡ false → blocks is_saved (l ∷ ls) ≡ blocks is_saved ls
  unfolding blocks
  no-list e = simp e

-- so many lists among the first i lines
abbrev pub ListsSoFar : List Line → ℕ → ℕ → Type 0
ListsSoFar ls i n = n + length (blocks is_saved (drop i ls)) ≡ length (blocks is_saved ls)

pub lists-none : (ls : List Line) → ListsSoFar ls 0 0
lists-none ls = omega arith

module _ (ls : List Line) (i n : ℕ) (lt : i < length ls) (h : ListsSoFar ls i n) where
  pub lists-one : kind (get_or ls i []) ≡ saved → ListsSoFar ls (i + 1) (n + 1)
  lists-one e =
      let d = ap (λ m. length (blocks is_saved m)) (drop-next ls i [] lt) in
      let o = one_list (get_or ls i []) (drop (i + 1) ls) e in
      omega arith

  pub lists-same : is_saved (kind (get_or ls i [])) ≡ false → ListsSoFar ls (i + 1) n
  lists-same e =
      let d = ap (λ m. length (blocks is_saved m)) (drop-next ls i [] lt) in
      let o = ap length (no-list (get_or ls i []) (drop (i + 1) ls) e) in
      omega arith

pub lists-all : (ls : List Line) (i n : ℕ) → length ls ≤ i → ListsSoFar ls i n → n ≡ length (lists_in ls)
unfolding blocks
lists-all ls i n le h =
    let d = ap (λ m. length (blocks is_saved m)) (drop_of_length-le ls le) in
    let m = length-map (blocks is_saved ls) (λ (w : View). w.block) in
    omega arith

-- ---- where blocks stand

place-low : (lists b : ℕ) → b ≤ lists → place_of lists b ≡ b
unfolding place_of
place-low lists b le = rw (le-leb b lists le)

place-high : (lists b : ℕ) → lists < b → place_of lists b ≡ b + (most_lists - lists)
unfolding place_of
place-high lists b lt = rw (lt-leb b lists lt)

at_most : (m n : ℕ) → (m ≤ n) ⊎ (n < m)
at_most m n = go (leb m n) refl
  where
    go : (t : Bool) → leb m n ≡ t → (m ≤ n) ⊎ (n < m)
    go true e = inl (leb-true m n e)
    go false e = inr (leb-false m n e)

place-rises : (lists c b : ℕ) → c < b → place_of lists c < place_of lists b
place-rises lists c b lt = ⊎_elim
    (λ h. let e = place-low lists b h in let f = place-low lists c (omega arith) in omega arith)
    (λ h. ⊎_elim
    (λ k. let e = place-high lists b h in let f = place-low lists c k in omega arith)
    (λ k. let e = place-high lists b h in let f = place-high lists c k in omega arith) (at_most c lists))
    (at_most b lists)

-- ---- the first n blocks have been stored

pub record BlocksSoFar (p : List ℕ) (ls : List Line) (lists n : ℕ) : Type 0 where
  pub within : n ≤ length (all_blocks ls)
  pub low : (b : ℕ) → b < n → place_of lists b < most_blocks
  pub each : (b : ℕ) → b < n → BlockNumbers (block_numbers p (place_of lists b)) (block_size p (place_of lists b)) (block_at ls (suc b))

pub begun-none : (p : List ℕ) (ls : List Line) (lists : ℕ) → BlocksSoFar p ls lists 0
begun-none p ls lists = record { within = omega arith; low = λ b h. absurd (omega arith); each = λ b h. absurd (omega arith) }

-- a block stands in numbers that are the same
pub numbers-same : (p q : List ℕ) (c : ℕ) (k : List ℕ → Type 0) → length p ≡ plan_numbers → length q ≡ plan_numbers → c < most_blocks
    → ((y : ℕ) → blocks_at + c * block_width ≤ y → y < blocks_at + c * block_width + block_width → get_or q y 0 ≡ get_or p y 0) → k (block_numbers p c) → k (block_numbers q c)
numbers-same p q c k s t lt e h = subst k (sym (part_same p q (blocks_at + c * block_width) block_width (omega arith) (t ∙ sym s) e)) h

-- one block more, at its place
pub begun_more : {table : Table} (p q : List ℕ) (ls : List Line) (lists b : ℕ) (some : Bool) (n : ℕ) (blk : List ℕ) → place_of lists b < most_blocks → length p ≡ plan_numbers → BlockStored p q (place_of lists b) n blk → some ≡ true
    → BlockFound table ls (b + 1) some n blk → BlocksSoFar p ls lists b → BlocksSoFar q ls lists (b + 1)
begun_more p q ls lists b some n blk lt s w is f h =
    let t = w.long in
    let i : has_block ls (b + 1) ≡ true = sym f.found ∙ is in
    let m : BlockNumbers blk n (block_at ls (suc b)) = subst (λ k. BlockNumbers blk n (block_at ls k)) (add-one b) (f.numbers is) in
    let l = part_length q (blocks_at + place_of lists b * block_width) block_width (omega arith) in
    let e : block_numbers q (place_of lists b) ≡ blk = ext_get_or 0 (block_numbers q (place_of lists b)) blk (l ∙ sym m.size) (λ x k. part_get q (blocks_at + place_of lists b * block_width) block_width x 0 (omega arith) ∙ w.numbers x (omega arith)) in
    record {
      within = is_block ls (b + 1) i;
      low = below_more _ b h.low lt;
      each = below_more _ b
          (λ c k. let r = place-rises lists c b k in
          subst (λ z. BlockNumbers (block_numbers q (place_of lists c)) z (block_at ls (suc c))) (sym (w.sizes (place_of lists c) r))
          (numbers-same p q (place_of lists c) (λ z. BlockNumbers z (block_size p (place_of lists c)) (block_at ls (suc c))) s t (h.low c k) (λ y g u. w.kept y (omega arith)) (h.each c k)))
          (subst (λ z. BlockNumbers z (block_size q (place_of lists b)) (block_at ls (suc b))) (sym e) (subst (λ z. BlockNumbers blk z (block_at ls (suc b))) (sym w.size) m));
    }

-- all of them: the question, the lists and the views are where they belong
module _ (p : List ℕ) (ls : List Line) (lists b : ℕ) (ok : AcceptedLines ls) (so : lists ≡ length (lists_in ls)) (h : BlocksSoFar p ls lists b) where
  by_number : length (all_blocks ls) ≤ b → Blocks p ls b
  by_number all =
      let w = h.within in
      let c = block-count ok.0 ls ok.1 in
      let few = lists_few ok.0 ls ok.1 in
      record {
        count = omega arith;
        question = subst (λ x. BlockNumbers (block_numbers p question_block) (block_size p question_block) x) (block-question ok.0 ls ok.1)
            (subst (λ k. BlockNumbers (block_numbers p k) (block_size p k) (block_at ls 1)) (place-low lists 0 (omega arith)) (h.each 0 (omega arith)));
        list = λ i lt. subst (λ x. BlockNumbers (block_numbers p (list_block i)) (block_size p (list_block i)) x) (block-list ok.0 ls ok.1 i lt)
            (subst (λ k. BlockNumbers (block_numbers p k) (block_size p k) (block_at ls (suc (suc i)))) (let e = place-low lists (suc i) (omega arith) in let f : place_of lists (suc i) ≡ list_block i = omega arith in f) (h.each (suc i) (omega arith)));
        view = λ v lt. subst (λ x. BlockNumbers (block_numbers p (view_block v)) (block_size p (view_block v)) x)
            (ap (λ k. block_at ls (suc (suc (k + v)))) so ∙ block_view ok.0 ls ok.1 v)
            (subst (λ k. BlockNumbers (block_numbers p k) (block_size p k) (block_at ls (suc (suc (lists + v))))) (let e = place-high lists (suc (lists + v)) (omega arith) in let f : place_of lists (suc (lists + v)) ≡ view_block v = omega arith in f) (h.each (suc (lists + v)) (omega arith)));
      }

  pub begun-end : {table : Table} (n : ℕ) (blk : List ℕ) (some : Bool) → some ≡ false → BlockFound table ls (b + 1) some n blk → Blocks p ls b
  begun-end n blk some is f = by_number (no_block ls b (sym f.found ∙ is))

  -- there are no more blocks than places
  pub begun_all : most_blocks ≤ b → Blocks p ls b
  begun_all le = let v = accepted-views ls ok in let c = block-count ok.0 ls ok.1 in let l = lists_few ok.0 ls ok.1 in by_number (omega arith)

  pub begun-out : {table : Table} (some : Bool) (n : ℕ) (blk : List ℕ) → some ≡ true → BlockFound table ls (b + 1) some n blk → most_blocks ≤ place_of lists b → Blocks p ls b
  begun-out some n blk is f le =
      let i = is_block ls (b + 1) (sym f.found ∙ is) in
      let v = accepted-views ls ok in
      let c = block-count ok.0 ls ok.1 in
      let l = lists_few ok.0 ls ok.1 in
      ⊎_elim (λ k. let e = place-low lists b k in absurd (omega arith)) (λ k. let e = place-high lists b k in absurd (omega arith)) (at_most b lists)
