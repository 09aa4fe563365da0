-- The sheet of a plan where the values of two listed rows are exchanged.
use mathlib.Core.Path.{◌≡◌, refl, sym, ap, ◌∙◌, subst}
use mathlib.Core.Bool.{Bool, true, false, cond}
use mathlib.Core.List.{List, [], ◌∷◌, map}
use mathlib.Core.Logic.{◌⊎◌, inl, inr}
use Prim.Native.Nat.{ℕ, zero, suc, ◌+◌, ◌-◌, ◌*◌, ◌/◌, ◌<◌, ◌≤◌}
use native.Mathlib.Omega.{arith}
use borrow.Author.Tests.{eqb-true}
use lib.Dec.{eqb}
use lib.ListN.{length, get_or}
use Rattle.query_layout.specs.Layout.{block_head, block_width, names}
use Rattle.tableau_layout.specs.Layout.{blocks_at, list_block, view_block}
use Rattle.sheet_format.specs.Table.{Table}
use Rattle.query_meaning.specs.Meaning.{con, var, Atom, Block, In, row}
use Rattle.query_meaning.specs.Blocks.{View, nth}
use Rattle.query_encoding.specs.Encoding.{BlockNumbers, Shaped, padded, term_number, term_at}
use Rattle.query_encoding.proofs.Lists.{in-at}
use Rattle.case_verdicts.specs.Verdict.{Sheet}
use Rattle.case_verdicts.specs.Sheets.{top}
use Rattle.case_verdicts.specs.Tableau.{Job, Copy, jobs, numbered, bare}
use Rattle.case_verdicts.proofs.Reduce.{row-con}
use Rattle.case_verdicts.proofs.Tableau.{numbered-job, job_is}
use Rattle.tableau_plan.specs.Plan.{row_at, row_values, row_count, saved_list_at, view_count, block_numbers, block_size}
use Rattle.tableau_plan.proofs.Whole.{nth_in}
use Rattle.search_task.specs.Task.{ReadyPlan, sheet_by}
use Rattle.search_task.specs.declared.Goal.{Goal}
use Rattle.search_task.specs.declared.Goal.TheVariants.{Counterexample, Agreement}
use Rattle.search_task.proofs.Columns.{same_at, pad_at, map_at, map-length, at_in, row-at}
use Rattle.tableau_parts.proofs.Laws.{block_at}
use Rattle.search_task.proofs.Copies.{copy-small, copy-job, first-job, numbered_is}
use Rattle.search_task.proofs.Node.{in-nth}
use Rattle.search_task.proofs.NodeLaws.{list_index, list-shaped}
use Rattle.search_task.proofs.ReadyLaws.{row-constants, ready_task, jobs-count}
use Rattle.search_symmetry.specs.Symmetry.{exchanged, copy_becomes, Exchanges, RowTo, RowsTo, FixedValue}
use Rattle.search_symmetry.proofs.Symmetry.{Still, StillBlock, Turns, Symmetric, map-twice, row-turned}

-- ---- exchanging twice

-- v stands in one of the rows, and z in its place in the other; or they are the same
abbrev Cases : List ℕ → List ℕ → ℕ → ℕ → Type 0
Cases ms ns v z = ((c : ℕ) × (c < length ms) × (v ≡ get_or ms c 0) × (z ≡ get_or ns c 0)) ⊎ ((c : ℕ) × (c < length ms) × (v ≡ get_or ns c 0) × (z ≡ get_or ms c 0)) ⊎ (z ≡ v)

cases_more : (m n : ℕ) (ms ns : List ℕ) (v z : ℕ) → Cases ms ns v z → Cases (m ∷ ms) (n ∷ ns) v z
cases_more m n ms ns v z (inl (c, lt, a, b)) = inl (suc c, omega arith, a, b)
cases_more m n ms ns v z (inr (inl (c, lt, a, b))) = inr (inl (suc c, omega arith, a, b))
cases_more m n ms ns v z (inr (inr a)) = inr (inr a)

cases_one : (m n : ℕ) (ms ns : List ℕ) (v z : ℕ) → Cases (m ∷ ms) (n ∷ ns) v z → (a b : Bool) → eqb v m ≡ a → eqb v n ≡ b → Cases (m ∷ ms) (n ∷ ns) v (cond a n (cond b m z))
cases_one m n ms ns v z rest true b e f = inl (0, omega arith, eqb-true v m e, refl)
cases_one m n ms ns v z rest false true e f = inr (inl (0, omega arith, eqb-true v n f, refl))
cases_one m n ms ns v z rest false false e f = rest

exchange_cases : (ms ns : List ℕ) (v : ℕ) → length ms ≡ length ns → Cases ms ns v (exchanged ms ns v)
unfolding exchanged
exchange_cases [] ns v e = inr (inr refl)
exchange_cases (m ∷ ms) [] v e = absurd (omega arith)
exchange_cases (m ∷ ms) (n ∷ ns) v e = cases_one m n ms ns v (exchanged ms ns v) (cases_more m n ms ns v (exchanged ms ns v) (exchange_cases ms ns v (omega arith))) (eqb v m) (eqb v n) refl refl

exchange_twice : (p : List ℕ) (one other : ℕ) → Exchanges p one other → (v : ℕ) → exchanged (row_values p one) (row_values p other) (exchanged (row_values p one) (row_values p other) v) ≡ v
exchange_twice p one other ex v = go (exchange_cases (row_values p one) (row_values p other) v refl)
  where
    go : Cases (row_values p one) (row_values p other) v (exchanged (row_values p one) (row_values p other) v) → exchanged (row_values p one) (row_values p other) (exchanged (row_values p one) (row_values p other) v) ≡ v
    go (inl (c, lt, a, b)) = ap (exchanged (row_values p one) (row_values p other)) (b ∙ row-at p other c lt) ∙ ex.back c lt ∙ sym (row-at p one c lt) ∙ sym a
    go (inr (inl (c, lt, a, b))) = ap (exchanged (row_values p one) (row_values p other)) (b ∙ row-at p one c lt) ∙ ex.there c lt ∙ sym (row-at p other c lt) ∙ sym a
    go (inr (inr a)) = ap (exchanged (row_values p one) (row_values p other)) a ∙ a

-- ---- blocks

-- a constant of a block in numbers
still-block : {table : Table} (p : List ℕ) (b : ℕ) (blk : Block) (turn : ℕ → ℕ) → BlockNumbers (block_numbers p b) (block_size p b) blk → Shaped table blk
    → ((k : ℕ) → k < block_width → (k / 5 < block_size p b) ⊎ (block_head ≤ k) → names ≤ get_or p (blocks_at + b * block_width + k) 0 → turn (get_or p (blocks_at + b * block_width + k) 0 - names) ≡ get_or p (blocks_at + b * block_width + k) 0 - names) → StillBlock turn blk
still-block p b blk turn bn sh fixed = record {
  head = λ c m.
      let (i, lt, e) = in-at (con 0) (con c) blk.head m in
      let s = sh.short in
      number-still c (block_head + i) (omega arith) (inr (omega arith)) (bn.head i (omega arith) ∙ ap term_number e);
  atoms = λ a m c n.
      let (j, lt, e) = in-at (record { rel = 0; terms = [] }) a blk.atoms m in
      let (i, li, f) = in-at (con 0) (con c) a.terms n in
      let (full, s) = sh.formed a m in
      let k = bn.count in
      let few = bn.few in
      number-still c (j * 5 + 1 + i) (omega arith) (inl (omega arith)) (bn.columns j (omega arith) i (omega arith) ∙ ap (λ (q : Atom). term_number (term_at q.terms i)) e ∙ ap term_number f);
  plain = sh.plain;
}
  where
    number-still : (c k : ℕ) → k < block_width → (k / 5 < block_size p b) ⊎ (block_head ≤ k) → get_or (block_numbers p b) k 0 ≡ c + names → turn c ≡ c
    number-still c k lt used e =
        let q : get_or p (blocks_at + b * block_width + k) 0 ≡ c + names = sym (block_at p b k lt) ∙ e in
        let z : get_or p (blocks_at + b * block_width + k) 0 - names ≡ c = omega arith in
        sym (ap turn z) ∙ fixed k lt used (omega arith) ∙ z

-- ---- listed rows

module _ (p : List ℕ) (x : Sheet) (r : ReadyPlan p x) (one other : ℕ) (to : List ℕ) (ex : Exchanges p one other) (fixed : FixedValue p one other) (rows : RowsTo p one other to) where
  abbrev turn : ℕ → ℕ
  turn = exchanged (row_values p one) (row_values p other)

  twice : (v : ℕ) → turn (turn v) ≡ v
  twice = exchange_twice p one other ex

  view_in : (i : ℕ) → i < row_count p → In (nth x.views (row_at p i 0)) x.views
  view_in i lt = let c = r.plan.views in let h = (r.plan.rows i lt).view in nth_in x.views (row_at p i 0) (omega arith)

  row-length : (i : ℕ) (lt : i < row_count p) → length (r.plan.rows i lt).row ≡ length (nth x.views (row_at p i 0)).block.head
  row-length i lt = r.accepted.lengths (nth x.views (row_at p i 0)) (view_in i lt) (r.plan.rows i lt).row (r.plan.rows i lt).listed

  row-short : (i : ℕ) (lt : i < row_count p) → length (r.plan.rows i lt).row ≤ 4
  row-short i lt = let s = (r.views (row_at p i 0) (r.plan.rows i lt).view).short in let e = row-length i lt in omega arith

  -- a column of the sheet's row
  value-at : (i : ℕ) (t : List ℕ) → row_values p i ≡ padded t → length t ≤ 4 → (c : ℕ) → c < length t → get_or t c 0 ≡ row_at p i (1 + c)
  value-at i t e short c lt = sym (pad_at t (4 - length t) c) ∙ ap (λ l. get_or l c 0) (sym e) ∙ row-at p i c (omega arith)

  -- row j is row i exchanged
  turned-row : (i j : ℕ) → RowTo p one other i j → (s t : List ℕ) → row_values p i ≡ padded s → row_values p j ≡ padded t → length t ≡ length s → length s ≤ 4 → t ≡ map turn s
  turned-row i j k s t a b e short = same_at t (map turn s) (e ∙ sym (map-length turn s)) (λ c lt.
      value-at j t b (omega arith) c lt ∙ k.values c (omega arith) ∙ ap turn (sym (value-at i s a short c (omega arith))) ∙ sym (map_at turn s c (omega arith)))

  abbrev to_copy : ℕ → ℕ
  to_copy = copy_becomes to

  fixed-block : {table : Table} (b : ℕ) (blk : Block) → b < view_block (view_count p) → BlockNumbers (block_numbers p b) (block_size p b) blk → Shaped table blk → StillBlock turn blk
  fixed-block b blk lt bn sh = still-block p b blk turn bn sh (λ k small used le. fixed.each b k lt small used le)

  still-view : (v : ℕ) → v < view_count p → StillBlock turn (nth x.views v).block
  still-view v lt = fixed-block (view_block v) _ (omega arith) (r.plan.view v lt) (r.views v lt)

  rows-turned : (w : View) → In w x.views → (t : List ℕ) → In t w.rows → In (map turn t) w.rows
  rows-turned w m t n =
      let (v, lt, e) = in-nth x.views w m in
      let c = r.plan.views in
      let n' = subst (λ (z : View). In t z.rows) e n in
      let (i, li, a, b) = r.plan.every_row v (omega arith) t n' in
      let k = rows.row i li in
      let j = get_or to i 0 in
      let o = r.plan.rows j k.inside in
      let q : row_at p j 0 ≡ v = k.view ∙ a in
      let here = r.accepted.lengths (nth x.views v) (nth_in x.views v (omega arith)) t n' in
      let there : length o.row ≡ length (nth x.views v).block.head = row-length j k.inside ∙ ap (λ z. length (nth x.views z).block.head) q in
      let short = (r.views v (omega arith)).short in
      let f = turned-row i j k t o.row b o.values (there ∙ sym here) (omega arith) in
      subst (λ (z : View). In (map turn t) z.rows) (sym e) (subst (λ l. In l (nth x.views v).rows) f (subst (λ z. In o.row (nth x.views z).rows) q o.listed))

  -- the copy of a listed row
  turns-row : (goal : Goal) (c : Copy) → In c (numbered (jobs (sheet_by goal x))) → (i : ℕ) → c.number ≡ suc i → i < row_count p → StillBlock turn c.job.block × Turns (sheet_by goal x) turn to_copy c
  turns-row goal c m i e lt =
      let q = copy-job p x r goal c m i e lt in
      let k = rows.row i lt in
      let j = get_or to i 0 in
      let o = r.plan.rows i lt in
      let w = r.plan.rows j k.inside in
      let there : length w.row ≡ length o.row = row-length j k.inside ∙ ap (λ z. length (nth x.views z).block.head) k.view ∙ sym (row-length i lt) in
      let f : w.row ≡ map turn o.row = turned-row i j k o.row w.row o.values w.values there (row-short i lt) in
      let block : (nth x.views (row_at p j 0)).block ≡ c.job.block = ap (λ v. (nth x.views v).block) k.view ∙ sym (ap (λ (z : Job). z.block) q) in (
        subst (λ (z : Job). StillBlock turn z.block) (sym q) (still-view (row_at p i 0) o.view),
        record {
          other = record { number = suc j; job = record { block = (nth x.views (row_at p j 0)).block; is = map con w.row } };
          copied = (ready_task p x r goal).copies j k.inside w.row w.values w.listed;
          number = sym (ap to_copy e);
          block = block;
          is = λ v z same. ap (λ (d : Job). row z d.is) q ∙ row-con z o.row ∙ sym (map-twice turn twice o.row) ∙ ap (map turn) (sym f) ∙ ap (map turn) (sym (row-con v w.row));
        },
      )

  still-bare : StillBlock turn (record { head = []; atoms = []; apart = [] })
  still-bare = record { head = λ c m. absurd m; atoms = λ a m. absurd m; plain = refl }

  still-asked : (goal : Goal) → StillBlock turn (sheet_by goal x).question
  still-asked Counterexample = fixed-block 0 x.question (omega arith) r.plan.question r.question
  still-asked Agreement = still-bare

  still-list : (goal : Goal) (l : Block) → In l (sheet_by goal x).lists → StillBlock turn l
  still-list Counterexample l m =
      let (i, lt, e) = list_index p x r l m in
      let few = r.plan.lists_few in
      subst (StillBlock turn) e (fixed-block (list_block i) (saved_list_at x i) (omega arith) (r.plan.list i lt) (list-shaped p x r i lt))
  still-list Agreement l m = absurd m

  still-views : (w : View) → In w x.views → StillBlock turn w.block
  still-views w m = let (v, lt, e) = in-nth x.views w m in let c = r.plan.views in subst (λ (z : View). StillBlock turn z.block) (sym e) (still-view v (omega arith))

  -- the question's copy
  first_block : (goal : Goal) (c : Copy) → In c (numbered (jobs (sheet_by goal x))) → c.number ≡ 0 → c.job.block ≡ (sheet_by goal x).question
  first_block Counterexample c m e = ap (λ (j : Job). j.block) (numbered_is (jobs x) c (record { block = x.question; is = [] }) m ∙ ap (λ n. get_or (jobs x) n (record { block = x.question; is = [] })) e)
  first_block Agreement c m e = ap (λ (j : Job). j.block) (numbered_is (jobs (bare x)) c (record { block = x.question; is = [] }) m ∙ ap (λ n. get_or (jobs (bare x)) n (record { block = x.question; is = [] })) e)

  turns-first : (goal : Goal) (c : Copy) → In c (numbered (jobs (sheet_by goal x))) → c.number ≡ 0 → StillBlock turn c.job.block × Turns (sheet_by goal x) turn to_copy c
  turns-first goal c m e =
      let still = subst (StillBlock turn) (sym (first_block goal c m e)) (still-asked goal) in
      let fine = job_is (sheet_by goal x) (ready_task p x r goal).accepted c.job (numbered-job (jobs (sheet_by goal x)) c m) in (
        still,
        record {
          other = c;
          copied = m;
          number = e ∙ sym (ap to_copy e);
          block = refl;
          is = λ v w same. row-turned turn v w c.job.is (λ z i. same z (fine (var z) i)) (subst (Still turn) (first-job p x r goal c m e) still.head);
        },
      )

  turns-each : (goal : Goal) (c : Copy) → In c (numbered (jobs (sheet_by goal x))) → StillBlock turn c.job.block × Turns (sheet_by goal x) turn to_copy c
  turns-each goal c m = go c.number refl
    where
      go : (k : ℕ) → c.number ≡ k → StillBlock turn c.job.block × Turns (sheet_by goal x) turn to_copy c
      go zero e = turns-first goal c m e
      go (suc i) e = let lt = copy-small (jobs (sheet_by goal x)) c m in let f = jobs-count p x r goal in turns-row goal c m i e (omega arith)

  pub symmetric : (goal : Goal) → Symmetric (sheet_by goal x) turn to_copy
  symmetric Counterexample = record { twice = twice; first = refl; question = still-asked Counterexample; lists = still-list Counterexample; views = still-views; copies = turns-each Counterexample; rows = rows-turned }
  symmetric Agreement = record { twice = twice; first = refl; question = still-asked Agreement; lists = still-list Agreement; views = still-views; copies = turns-each Agreement; rows = rows-turned }

  -- constants become constants
  pub turn_small : one < row_count p → other < row_count p → (v : ℕ) → v < top → turn v < top
  turn_small a b v lt = go (exchange_cases (row_values p one) (row_values p other) v refl)
    where
      go : Cases (row_values p one) (row_values p other) v (turn v) → turn v < top
      go (inl (c, l, e, f)) = subst (λ z. z < top) (sym f) (row-constants p x r other b (get_or (row_values p other) c 0) (at_in (row_values p other) c l))
      go (inr (inl (c, l, e, f))) = subst (λ z. z < top) (sym f) (row-constants p x r one a (get_or (row_values p one) c 0) (at_in (row_values p one) c l))
      go (inr (inr e)) = subst (λ z. z < top) (sym e) lt
