-- What facts in plain numbers say of a state of the search.
use mathlib.Core.Path.{◌≡◌, refl, sym, ap, ◌∙◌, subst}
use mathlib.Core.List.{List, [], ◌∷◌, ◌++◌, map}
use mathlib.Core.Logic.{◌⊎◌, inl, inr, ⊎_elim}
use Prim.Native.Nat.{ℕ, suc, ◌<◌}
use native.Mathlib.Nat.{min-eq_left}
use native.Mathlib.Omega.{arith}
use lib.IntN.{pos}
use lib.ListN.{length, drop, length-map}
use Rattle.tableau_layout.specs.Layout.{list_block, view_block, table_at}
use Rattle.sheet_format.specs.Table.{columns_of}
use Rattle.sheet_format.proofs.TableLaws.{Narrow}
use Rattle.sheet_format.proofs.Lists.{append-nil}
use Rattle.query_meaning.specs.Meaning.{Term, con, var, Log, Block, In, row, Answer}
use Rattle.query_meaning.specs.Blocks.{View, nth}
use Rattle.query_join.specs.Joins.{Given}
use Rattle.query_encoding.specs.Encoding.{BlockNumbers, FactNumbers, Shaped, ShapedLog, padded}
use Rattle.query_encoding.proofs.Bridge.{answer-given, head-length, holds_by, head-row}
use Rattle.query_encoding.proofs.Order.{pad_same}
use Rattle.sheet_terms.proofs.Laws.{columns-most}
use Rattle.query_blocks.proofs.Shape.{from-map}
use Rattle.case_verdicts.specs.Verdict.{Sheet}
use Rattle.case_verdicts.specs.Sheets.{top}
use Rattle.case_verdicts.specs.Accepted.{Fine, FineSheet}
use Rattle.case_verdicts.specs.Tableau.{Job, State, Copy, jobs, numbered, copy, tableau_log, head_of, Meets, Good}
use Rattle.case_verdicts.specs.Search.{Keeps, equations, lines, Refuted, RefutedBy, Alternatives}
use Rattle.case_verdicts.proofs.Tableau.{log-formed}
use Rattle.case_verdicts.proofs.Reduce.{row-con}
use Rattle.case_verdicts.proofs.Refute.{list-gives, view-gives, copy_gives, step, none_left}
use Rattle.tableau_plan.specs.Plan.{row_at, row_values, row_count, view_count, block_numbers, block_size, plan_table, Plan}
use Rattle.tableau_plan.proofs.Whole.{nth_in}
use Rattle.tableau_parts.specs.Views.{GivenAt, ListedRow, StrayAt, NoStray}
use Rattle.search_keys.specs.Keys.{KeysHold}
use Rattle.search_keys.proofs.Laws.{keys-held}
use Rattle.search_task.proofs.Padded.{refuted-padded}

-- ---- a task: the sheet itself, or the bare sheet, whose cases are the agreeing logs

pub record Task (p : List ℕ) (x y : Sheet) : Type 0 where
  pub accepted : FineSheet top y
  pub plain : y.table ≡ plan_table p
  pub same : y.views ≡ x.views
  pub shaped : (v : ℕ) → v < view_count p → Shaped y.table (nth x.views v).block
  -- row i is copy i + 1
  pub copies : (i : ℕ) → i < row_count p → (r : List ℕ) → row_values p i ≡ padded r → In r (nth x.views (row_at p i 0)).rows
      → In (record { number = suc i; job = record { block = (nth x.views (row_at p i 0)).block; is = map con r } }) (numbered (jobs y))

pub in-nth : (ws : List View) (w : View) → In w ws → (v : ℕ) × (v < length ws) × (w ≡ nth ws v)
in-nth [] w x' = elim x' [ ]
in-nth (u ∷ ws) w (inl e) = (0, omega arith, e)
in-nth (u ∷ ws) w (inr m) = let (v, lt, e) = in-nth ws w m in (suc v, omega arith, e)

-- any log in numbers
module _ (p : List ℕ) (x y : Sheet) (plan : Plan p x) (task : Task p x y) (log : Log) (ns : List ℕ) (fn : FactNumbers ns log) where
  -- a view's answer in numbers
  view-given : (v : ℕ) → v < view_count p → (r : List ℕ) → Answer log (nth x.views v).block r → GivenAt p (view_block v) ns (padded r)
  view-given v lt r a =
      let bn = plan.view v lt in
      subst (λ n. Given (block_numbers p (view_block v)) n ns (padded r)) (sym (min-eq_left bn.few)) (answer-given bn (task.shaped v lt) fn a)

  -- a row that is listed in the plan is listed in the sheet
  listed-row : (v : ℕ) → v < view_count p → (r : List ℕ) → length r ≡ length (nth x.views v).block.head → ListedRow p v (padded r) → In r (nth x.views v).rows
  listed-row v lt r len (i, li, e, f) =
      let o = plan.rows i li in
      let c = plan.views in
      let h = subst (λ w. In o.row (nth x.views w).rows) e o.listed in
      let q = task.accepted.lengths (nth x.views v) (subst (λ ws. In (nth x.views v) ws) (sym task.same) (nth_in x.views v (omega arith))) o.row h in
      subst (λ t. In t (nth x.views v).rows) (sym (pad_same r o.row (len ∙ sym q) (sym f ∙ o.values))) h

  -- no stray row: every answer of a view is listed
  pub none-stray : NoStray p ns → (w : View) → In w y.views → (r : List ℕ) → Answer log w.block r → In r w.rows
  none-stray none w m r a =
      let (v, lt, e) = in-nth x.views w (subst (λ ws. In w ws) task.same m) in
      let c = plan.views in
      let a' = subst (λ u. Answer log u.block r) e a in
      subst (λ u. In r u.rows) (sym e) (listed-row v (omega arith) r (head-length a') (none v (omega arith) (padded r) (view-given v (omega arith) r a')))

-- a state's log
module _ (p : List ℕ) (x y : Sheet) (plan : Plan p x) (task : Task p x y) (s : State) (ns : List ℕ) (fn : FactNumbers ns (tableau_log y s)) where
  pub shaped-log : ShapedLog y.table (tableau_log y s)
  unfolding columns_of
  shaped-log f m =
      let d = log-formed y task.accepted s f m in
      let k = subst Narrow (sym task.plain) (columns-most (drop table_at p)) (pos f.rel) in
      (d.full, let e = d.full in omega arith)

  -- a stray row, and each of its alternatives refuted
  pub stray-refuted : (v : ℕ) (u : List ℕ) → StrayAt p ns v u
      → ((i : ℕ) → i < row_count p → row_at p i 0 ≡ v → RefutedBy top y s (equations u (row_values p i))) → Refuted top y s
  stray-refuted v u st each =
      let lt = st.view in
      let c = plan.views in
      let bn = plan.view v lt in
      let sh = task.shaped v lt in
      let w = nth x.views v in
      let g = subst (λ n. Given (block_numbers p (view_block v)) n ns u) (min-eq_left bn.few) st.given in
      let holds = holds_by bn sh fn shaped-log g.val g.met in
      let e : u ≡ padded (row g.val w.block.head) = sym g.gives ∙ head-row bn sh g.val in
      let m = subst (λ ws. In w ws) (sym task.same) (nth_in x.views v (omega arith)) in
      step (view-gives y task.accepted s w m g.val holds) (λ alt i.
      let none : lines g.val w.block ≡ [] = ap (map _) sh.plain in
      let (r, j, q) = from-map (equations (row g.val w.block.head)) w.rows alt (subst (λ l. In alt l) (ap (λ l. map (equations (row g.val w.block.head)) w.rows ++ l) none ∙ append-nil (map (equations (row g.val w.block.head)) w.rows)) i) in
      let (k, lk, a, b) = plan.every_row v lt r j in
      let len : length (row g.val w.block.head) ≡ length r = length-map w.block.head _ ∙ sym (task.accepted.lengths w m r j) in
      subst (λ t. RefutedBy top y s t) (sym q) (refuted-padded top y s (row g.val w.block.head) r len
      (subst (λ t. RefutedBy top y s (equations (padded (row g.val w.block.head)) t)) b (subst (λ t. RefutedBy top y s (equations t (row_values p k))) e (each k lk a)))))

  -- a list gives the question's head: nothing below is good
  pub list-refuted : (i : ℕ) (l : Block) → In l y.lists → Shaped y.table l → BlockNumbers (block_numbers p (list_block i)) (block_size p (list_block i)) l → GivenAt p (list_block i) ns (padded (head_of y s)) → length l.head ≡ length (head_of y s) → Refuted top y s
  list-refuted i l m sh bn g len =
      let h = subst (λ n. Given (block_numbers p (list_block i)) n ns (padded (head_of y s))) (min-eq_left bn.few) g in
      let holds = holds_by bn sh fn shaped-log h.val h.met in
      let e : row h.val l.head ≡ head_of y s = pad_same (row h.val l.head) (head_of y s) (length-map l.head _ ∙ len) (sym (head-row bn sh h.val) ∙ h.gives) in
      none_left (subst (λ a. Alternatives top y s a) (ap (map _) sh.plain) (list-gives y task.accepted s l m h.val holds e))

  -- a list lacks it
  pub list_lacks : (i : ℕ) (l : Block) → Shaped y.table l → BlockNumbers (block_numbers p (list_block i)) (block_size p (list_block i)) l → (GivenAt p (list_block i) ns (padded (head_of y s)) → ⊥) → Answer (tableau_log y s) l (head_of y s) → ⊥
  list_lacks i l sh bn none a = none (subst (λ n. Given (block_numbers p (list_block i)) n ns (padded (head_of y s))) (sym (min-eq_left bn.few)) (answer-given bn sh fn a))

  -- the head of row i's copy, with what it must be
  pub head-refuted : (i : ℕ) → i < row_count p → (u : List ℕ) → u ≡ padded (row (copy s (suc i)) (nth x.views (row_at p i 0)).block.head) → RefutedBy top y s (equations u (row_values p i)) → Refuted top y s
  head-refuted i lt u e r =
      let o = plan.rows i lt in
      let v = row_at p i 0 in
      let w = nth x.views v in
      let c = plan.views in
      let h = o.view in
      let t = row (copy s (suc i)) w.block.head in
      let m = subst (λ ws. In w ws) (sym task.same) (nth_in x.views v (omega arith)) in
      let len : length t ≡ length o.row = length-map w.block.head _ ∙ sym (task.accepted.lengths w m o.row o.listed) in
      let k = task.copies i lt o.row o.values o.listed in
      let q = refuted-padded top y s t o.row len (subst (λ z. RefutedBy top y s (equations (padded t) z)) o.values (subst (λ z. RefutedBy top y s (equations z (row_values p i))) e r)) in
      step (copy_gives y task.accepted s (record { number = suc i; job = record { block = w.block; is = map con o.row } }) k)
      (λ alt j. ⊎_elim (λ z. subst (λ a. RefutedBy top y s a) (sym z) (subst (λ a. RefutedBy top y s (equations t a)) (sym (row-con (copy s (suc i)) o.row)) q)) absurd j)

  -- every copy's head is what it must be, keys hold, no view gives a stray row, no list gives the question's head: the state is good
  pub good-state : ((c : Copy) → In c (numbered (jobs y)) → Meets (copy s c.number) c.job) → KeysHold p ns → NoStray p ns → ((l : Block) → In l y.lists → Answer (tableau_log y s) l (head_of y s) → ⊥) → Good y s
  good-state meets keys none lacks = record { meets = meets; keyed = keys-held p task.plain fn shaped-log keys; none_more = none-stray p x y plan task (tableau_log y s) ns fn none; missing = lacks }

-- ---- what is settled stays settled

pub kept_row : (h : ℕ → ℕ) (r : List ℕ) → Keeps top h → ((n : ℕ) → In n r → n < top) → map h r ≡ r
kept_row h [] k small = refl
kept_row h (n ∷ r) k small = ap (λ z. z ∷ map h r) (k n (small n (inl refl))) ∙ ap (λ l. n ∷ l) (kept_row h r k (λ m i. small m (inr i)))

pub fine-row : (h v : ℕ → ℕ) (ts : List Term) → Keeps top h → Fine top ts → row (λ z. h (v z)) ts ≡ map h (row v ts)
fine-row h v [] k f = refl
fine-row h v (con c ∷ ts) k f = ap (λ z. z ∷ row (λ q. h (v q)) ts) (sym (k c (f (con c) (inl refl)))) ∙ ap (λ l. h c ∷ l) (fine-row h v ts k (λ t m. f t (inr m)))
fine-row h v (var z ∷ ts) k f = ap (λ l. h (v z) ∷ l) (fine-row h v ts k (λ t m. f t (inr m)))

-- a copy's head that is what it must be stays so when made-up values are replaced
pub meets-kept : (h v : ℕ → ℕ) (j : Job) → Keeps top h → Fine top j.block.head → Fine top j.is → j.block.apart ≡ [] → Meets v j → Meets (λ z. h (v z)) j
meets-kept h v j k f g e m = record {
  gives = fine-row h v j.block.head k f ∙ ap (map h) m.gives ∙ sym (fine-row h v j.is k g);
  differ = λ d i. absurd (subst (λ l. In d l) e i);
}
