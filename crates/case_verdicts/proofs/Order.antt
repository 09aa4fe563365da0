-- Accepted lines have their blocks in order: block 1 is the sheet's question, and its lists and its views follow. There are no more lists than
-- there may be.
use mathlib.Core.Path.{◌≡◌, refl, sym, ap, ◌∙◌}
use mathlib.Core.Bool.{true, false, cond}
use mathlib.Core.List.{List, [], ◌∷◌, ◌++◌, map}
use Prim.Native.Nat.{ℕ, zero, suc, ◌+◌, ◌<◌, ◌≤◌}
use native.Mathlib.Omega.{arith}
use lib.ListN.{length, get_or, length-append, length-map}
use lib.Dec.{leb}
use borrow.Author.Tests.{eqb-true, leb-true, leb-false}
use Rattle.sheet_format.specs.Limits.{most_lists}
use Rattle.sheet_format.specs.Table.{Table}
use Rattle.sheet_format.specs.Line.{Line}
use Rattle.sheet_format.specs.Cause.{Kind, question, saved, view, atom, row, other, kind, rest, in_place, too_many_blocks, start, next_by, next, scan, is_head, refusal_of}
use Rattle.sheet_format.specs.Answers.{Seen}
use Rattle.sheet_format.proofs.Lists.{no_way, both}
use Rattle.sheet_format.proofs.ScanLaws.{accepted-scan}
use Rattle.query_meaning.specs.Meaning.{Block}
use Rattle.query_meaning.specs.Blocks.{View, view_of, blocks, all_blocks, nowhere, nth, block_at}
use Rattle.query_blocks.proofs.Accepted.{scan-first}
use Rattle.case_verdicts.specs.Sheets.{is_question, is_saved, is_view_kind, sheet_of}

-- where a view's head has been read, views alone are left
record OnlyViews (heads questions lists views : List View) : Type 0 where
  all : heads ≡ views
  no-question : questions ≡ []
  no-list : lists ≡ []

abbrev ViewsIn : List Line → Type 0
ViewsIn ls = OnlyViews (blocks is_head ls) (blocks is_question ls) (blocks is_saved ls) (blocks is_view_kind ls)

views-by : (g : Seen) (k : Kind) (n : ℕ) (v : View) (hs qs ls ws : List View) → 3 ≤ g.block → in_place g k ≡ true → (3 ≤ (next_by g k n).block → OnlyViews hs qs ls ws)
    → OnlyViews (cond (is_head k) (v ∷ hs) hs) (cond (is_question k) (v ∷ qs) qs) (cond (is_saved k) (v ∷ ls) ls) (cond (is_view_kind k) (v ∷ ws) ws)
views-by g question n v hs qs ls ws h p ih = absurd (let e = eqb-true g.block 0 p in omega arith)
views-by g saved n v hs qs ls ws h p ih = absurd (let e = leb-true g.block 2 (both (leb 1 g.block) (leb g.block 2) p).1 in omega arith)
views-by g view n v hs qs ls ws h p ih = let r = ih (omega arith) in record { all = ap (λ l. v ∷ l) r.all; no-question = r.no-question; no-list = r.no-list }
views-by g atom n v hs qs ls ws h p ih = ih h
views-by g row n v hs qs ls ws h p ih = ih h
views-by g other n v hs qs ls ws h p ih = no_way p

views-left : (table : Table) (ls : List Line) (g : Seen) (b : Line) (n : ℕ) → 3 ≤ g.block → (scan table g b n ls).number ≡ 0 → ViewsIn ls
unfolding blocks next
views-left table [] g b n h s = record { all = refl; no-question = refl; no-list = refl }
views-left table (l ∷ ls) g b n h s =
    let (c, r) = scan-first table l ls g b n s in
    views-by g (kind l) (length (rest l)) (view_of l ls) _ _ _ _ h c.placed (λ i. views-left table ls (next g l) l (n + 1) i r)

-- where the question's head has been read, lists are left and then views
record ListsFirst (heads questions lists views : List View) : Type 0 where
  all : heads ≡ lists ++ views
  no-question : questions ≡ []

abbrev ListsIn : List Line → Type 0
ListsIn ls = ListsFirst (blocks is_head ls) (blocks is_question ls) (blocks is_saved ls) (blocks is_view_kind ls)

lists-by : (g : Seen) (k : Kind) (n : ℕ) (v : View) (hs qs ls ws : List View) → 1 ≤ g.block → in_place g k ≡ true
    → (3 ≤ (next_by g k n).block → OnlyViews hs qs ls ws) → (1 ≤ (next_by g k n).block → ListsFirst hs qs ls ws)
    → ListsFirst (cond (is_head k) (v ∷ hs) hs) (cond (is_question k) (v ∷ qs) qs) (cond (is_saved k) (v ∷ ls) ls) (cond (is_view_kind k) (v ∷ ws) ws)
lists-by g question n v hs qs ls ws h p more ih = absurd (let e = eqb-true g.block 0 p in omega arith)
lists-by g saved n v hs qs ls ws h p more ih = let r = ih (omega arith) in record { all = ap (λ l. v ∷ l) r.all; no-question = r.no-question }
lists-by g view n v hs qs ls ws h p more ih =
    let r = more (omega arith) in
    record { all = ap (λ l. v ∷ l) r.all ∙ sym (ap (λ l. l ++ (v ∷ ws)) r.no-list); no-question = r.no-question }
lists-by g atom n v hs qs ls ws h p more ih = ih h
lists-by g row n v hs qs ls ws h p more ih = ih h
lists-by g other n v hs qs ls ws h p more ih = no_way p

lists-left : (table : Table) (ls : List Line) (g : Seen) (b : Line) (n : ℕ) → 1 ≤ g.block → (scan table g b n ls).number ≡ 0 → ListsIn ls
unfolding blocks next
lists-left table [] g b n h s = record { all = refl; no-question = refl }
lists-left table (l ∷ ls) g b n h s =
    let (c, r) = scan-first table l ls g b n s in
    lists-by g (kind l) (length (rest l)) (view_of l ls) _ _ _ _ h c.placed (λ i. views-left table ls (next g l) l (n + 1) i r) (λ i. lists-left table ls (next g l) l (n + 1) i r)

-- the question comes first
pub record BlocksOrdered (heads questions lists views : List View) : Type 0 where
  pub question : View
  pub all : heads ≡ question ∷ (lists ++ views)
  pub one-question : questions ≡ question ∷ []

order-by : (k : Kind) (n : ℕ) (v : View) (hs qs ls ws : List View) → in_place start k ≡ true → (1 ≤ (next_by start k n).block → ListsFirst hs qs ls ws)
    → BlocksOrdered (cond (is_head k) (v ∷ hs) hs) (cond (is_question k) (v ∷ qs) qs) (cond (is_saved k) (v ∷ ls) ls) (cond (is_view_kind k) (v ∷ ws) ws)
order-by question n v hs qs ls ws p ih =
    let r = ih (omega arith) in
    record { question = v; all = ap (λ l. v ∷ l) r.all; one-question = ap (λ l. v ∷ l) r.no-question }
order-by saved n v hs qs ls ws p ih = no_way p
order-by view n v hs qs ls ws p ih = no_way p
order-by atom n v hs qs ls ws p ih = no_way p
order-by row n v hs qs ls ws p ih = no_way p
order-by other n v hs qs ls ws p ih = no_way p

ordered-from : (table : Table) (ls : List Line) → (scan table start [] 1 ls).number ≡ 0 → BlocksOrdered (blocks is_head ls) (blocks is_question ls) (blocks is_saved ls) (blocks is_view_kind ls)
unfolding blocks next scan
ordered-from table [] s = absurd (let e : ◌≡◌ {A = ℕ} 3 0 = s in omega arith)
ordered-from table (l ∷ ls) s =
    let (c, r) = scan-first table l ls start [] 1 s in
    order-by (kind l) (length (rest l)) (view_of l ls) _ _ _ _ c.placed (λ i. lists-left table ls (next start l) l 2 i r)

-- as many lists as have been read and are left
few-by : (g : Seen) (k : Kind) (n m : ℕ) → g.lists ≤ most_lists → in_place g k ≡ true → too_many_blocks g k ≡ false
    → ((next_by g k n).lists ≤ most_lists → m + (next_by g k n).lists ≤ most_lists) → cond (is_saved k) (suc m) m + g.lists ≤ most_lists
few-by g question n m h p r ih = ih h
few-by g saved n m h p r ih = let f = leb-false most_lists g.lists r in let e = ih (omega arith) in omega arith
few-by g view n m h p r ih = ih h
few-by g atom n m h p r ih = ih h
few-by g row n m h p r ih = ih h
few-by g other n m h p r ih = no_way p

length-cond : (k : Kind) (v : View) (ls : List View) → length (cond (is_saved k) (v ∷ ls) ls) ≡ cond (is_saved k) (suc (length ls)) (length ls)
length-cond question v ls = refl
length-cond saved v ls = refl
length-cond view v ls = refl
length-cond atom v ls = refl
length-cond row v ls = refl
length-cond other v ls = refl

few-left : (table : Table) (ls : List Line) (g : Seen) (b : Line) (n : ℕ) → g.lists ≤ most_lists → (scan table g b n ls).number ≡ 0 → length (blocks is_saved ls) + g.lists ≤ most_lists
unfolding blocks next
few-left table [] g b n h s = omega arith
few-left table (l ∷ ls) g b n h s =
    let (c, r) = scan-first table l ls g b n s in
    let e = length-cond (kind l) (view_of l ls) (blocks is_saved ls) in
    let f = few-by g (kind l) (length (rest l)) (length (blocks is_saved ls)) h c.placed c.room (λ i. few-left table ls (next g l) l (n + 1) i r) in
    omega arith

-- ---- a block by its number

nth_left : (ls ws : List View) (i : ℕ) → i < length ls → (nth (ls ++ ws) i).block ≡ get_or (map (λ (w : View). w.block) ls) i nowhere.block
nth_left [] ws i lt = absurd (omega arith)
nth_left (v ∷ ls) ws zero lt = refl
nth_left (v ∷ ls) ws (suc i) lt = nth_left ls ws i (omega arith)

nth_right : (ls ws : List View) (i : ℕ) → nth (ls ++ ws) (length ls + i) ≡ nth ws i
nth_right [] ws i = let e : 0 + i ≡ i = omega arith in ap (nth ws) e
nth_right (v ∷ ls) ws i = let e : suc (length ls) + i ≡ suc (length ls + i) = omega arith in ap (nth (v ∷ (ls ++ ws))) e ∙ nth_right ls ws i

module _ (table : Table) (ls : List Line) (ok : (refusal_of table ls).number ≡ 0) where
  -- all blocks are the question's, the lists' and the views, with their rows
  pub ordered : BlocksOrdered (blocks is_head ls) (blocks is_question ls) (blocks is_saved ls) (blocks is_view_kind ls)
  ordered = ordered-from table ls (eqb-true _ 0 (accepted-scan table ls ok))

  pub block-question : block_at ls 1 ≡ (sheet_of table ls).question
  block-question = ap (λ ws. (nth ws 0).block) ordered.all ∙ sym (ap (λ ws. (nth ws 0).block) ordered.one-question)

  lists_length : length (sheet_of table ls).lists ≡ length (blocks is_saved ls)
  lists_length = length-map (blocks is_saved ls) (λ (w : View). w.block)

  pub lists_few : length (sheet_of table ls).lists ≤ most_lists
  lists_few = let e = lists_length in let f = few-left table ls start [] 1 (omega arith) (eqb-true _ 0 (accepted-scan table ls ok)) in omega arith

  pub block-list : (i : ℕ) → i < length (sheet_of table ls).lists → block_at ls (suc (suc i)) ≡ get_or (sheet_of table ls).lists i nowhere.block
  block-list i lt = ap (λ ws. (nth ws (suc i)).block) ordered.all ∙ nth_left (blocks is_saved ls) (blocks is_view_kind ls) i (let e = lists_length in omega arith)

  pub block_view : (n : ℕ) → block_at ls (suc (suc (length (sheet_of table ls).lists + n))) ≡ (nth (sheet_of table ls).views n).block
  block_view n =
      ap (λ k. block_at ls (suc (suc (k + n)))) lists_length
      ∙ ap (λ ws. (nth ws (suc (length (blocks is_saved ls) + n))).block) ordered.all
      ∙ ap (λ (w : View). w.block) (nth_right (blocks is_saved ls) (blocks is_view_kind ls) n)

  pub block-count : length (all_blocks ls) ≡ 1 + length (sheet_of table ls).lists + length (sheet_of table ls).views
  block-count =
      let e = lists_length in
      let a = length-append (blocks is_saved ls) (blocks is_view_kind ls) in
      ap length ordered.all ∙ omega arith
