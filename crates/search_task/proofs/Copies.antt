-- The copies of a sheet's blocks: which block each is of, and when its head is what it must be.
use mathlib.Core.Path.{◌≡◌, refl, sym, ap, ◌∙◌, subst}
use mathlib.Core.List.{List, [], ◌∷◌, map}
use mathlib.Core.Logic.{inl, inr}
use Prim.Native.Nat.{ℕ, suc, ◌+◌, ◌*◌, ◌<◌}
use native.Mathlib.Omega.{arith}
use lib.ListN.{length, get_or, length-map}
use Rattle.query_layout.specs.Layout.{names}
use Rattle.tableau_layout.specs.Layout.{view_block}
use Rattle.query_meaning.specs.Meaning.{con, In, row}
use Rattle.query_meaning.specs.Blocks.{View, nth}
use Rattle.query_join.specs.Joins.{head_row}
use Rattle.query_encoding.specs.Encoding.{padded}
use Rattle.query_encoding.proofs.Bridge.{head-row}
use Rattle.query_encoding.proofs.Lists.{map_in}
use Rattle.case_verdicts.specs.Verdict.{Sheet}
use Rattle.case_verdicts.specs.Sheets.{top}
use Rattle.case_verdicts.specs.Accepted.{width}
use Rattle.case_verdicts.specs.Tableau.{Job, Copy, State, jobs, numbered, later, copy, Meets, bare}
use Rattle.case_verdicts.specs.Search.{Keeps, after}
use Rattle.case_verdicts.proofs.Tableau.{numbered-job, of_listed, copy-block, job_is}
use Rattle.case_verdicts.proofs.Reduce.{row-con}
use Rattle.tableau_plan.specs.Plan.{row_at, row_count, block_numbers}
use Rattle.tableau_plan.proofs.Whole.{nth_in}
use Rattle.search_task.specs.Task.{ReadyPlan, sheet_by, HeadsSettled}
use Rattle.search_task.proofs.Node.{in-nth, meets-kept}
use Rattle.search_task.proofs.ReadyLaws.{ready_task}
use Rattle.search_task.specs.declared.Goal.{Goal}
use Rattle.search_task.specs.declared.Goal.TheVariants.{Counterexample, Agreement}

-- ---- copies by their numbers

pub numbered_is : (js : List Job) (c : Copy) (d : Job) → In c (numbered js) → c.job ≡ get_or js c.number d
numbered_is [] c d x' = elim x' [ ]
numbered_is (j ∷ js) c d (inl e) = ap (λ (q : Copy). q.job) e ∙ ap (λ n. get_or (j ∷ js) n d) (sym (ap (λ (q : Copy). q.number) e))
numbered_is (j ∷ js) c d (inr m) =
    let (q, i, e) = map_in later c (numbered js) m in
    ap (λ (z : Copy). z.job) e ∙ numbered_is js q d i ∙ ap (λ n. get_or (j ∷ js) n d) (sym (ap (λ (z : Copy). z.number) e))

-- a copy's number is below the number of jobs
pub copy-small : (js : List Job) (c : Copy) → In c (numbered js) → c.number < length js
copy-small [] c m = absurd m
copy-small (j ∷ js) c (inl e) = let z : c.number ≡ 0 = ap (λ (q : Copy). q.number) e in omega arith
copy-small (j ∷ js) c (inr m) = let (d, i, e) = map_in _ c (numbered js) m in let k = copy-small js d i in let z : c.number ≡ suc d.number = ap (λ (q : Copy). q.number) e in omega arith

module _ (p : List ℕ) (x : Sheet) (r : ReadyPlan p x) where
  -- copy i + 1 is that of row i
  pub copy-job : (goal : Goal) (c : Copy) → In c (numbered (jobs (sheet_by goal x))) → (i : ℕ) → c.number ≡ suc i → (lt : i < row_count p)
      → c.job ≡ record { block = (nth x.views (row_at p i 0)).block; is = map con (r.plan.rows i lt).row }
  copy-job Counterexample c m i e lt = numbered_is (jobs x) c (record { block = x.question; is = [] }) m ∙ ap (λ n. get_or (jobs x) n (record { block = x.question; is = [] })) e ∙ (r.plan.rows i lt).copy
  copy-job Agreement c m i e lt = numbered_is (jobs (bare x)) c (record { block = x.question; is = [] }) m ∙ ap (λ n. get_or (jobs (bare x)) n (record { block = x.question; is = [] })) e ∙ (r.plan.rows i lt).copy

  -- the question's copy has its own head
  pub first-job : (goal : Goal) (c : Copy) → In c (numbered (jobs (sheet_by goal x))) → c.number ≡ 0 → c.job.block.head ≡ c.job.is
  first-job Counterexample c m e =
      let q = numbered_is (jobs x) c (record { block = x.question; is = [] }) m ∙ ap (λ n. get_or (jobs x) n (record { block = x.question; is = [] })) e in
      subst (λ (j : Job). j.block.head ≡ j.is) (sym q) refl
  first-job Agreement c m e =
      let q = numbered_is (jobs (bare x)) c (record { block = x.question; is = [] }) m ∙ ap (λ n. get_or (jobs (bare x)) n (record { block = x.question; is = [] })) e in
      subst (λ (j : Job). j.block.head ≡ j.is) (sym q) refl

  -- no block sets terms apart
  view-plain : (w : View) → In w x.views → w.block.apart ≡ []
  view-plain w m =
      let (v, lt, e) = in-nth x.views w m in
      let c = r.plan.views in
      subst (λ (u : View). u.block.apart ≡ []) (sym e) (r.views v (omega arith)).plain

  pub job-plain : (goal : Goal) (j : Job) → In j (jobs (sheet_by goal x)) → j.block.apart ≡ []
  job-plain Counterexample j (inl e) = subst (λ (k : Job). k.block.apart ≡ []) (sym e) r.question.plain
  job-plain Counterexample j (inr m) = let (w, t, n, k, e) = of_listed x j m in subst (λ (q : Job). q.block.apart ≡ []) (sym e) (view-plain w n)
  job-plain Agreement j (inl e) = subst (λ (k : Job). k.block.apart ≡ []) (sym e) refl
  job-plain Agreement j (inr m) = let (w, t, n, k, e) = of_listed (bare x) j m in subst (λ (q : Job). q.block.apart ≡ []) (sym e) (view-plain w n)

  -- the question's head is what it must be
  pub first-met : (goal : Goal) (s : State) (c : Copy) → In c (numbered (jobs (sheet_by goal x))) → c.number ≡ 0 → Meets (copy s c.number) c.job
  first-met goal s c m e = record {
    gives = ap (row (copy s c.number)) (first-job goal c m e);
    differ = λ d i. absurd (subst (λ l. In d l) (job-plain goal c.job (numbered-job (jobs (sheet_by goal x)) c m)) i);
  }

  -- ---- the copy of listed row i

  module _ (i : ℕ) (lt : i < row_count p) where
    abbrev view : View
    view = nth x.views (row_at p i 0)

    pub view_in : In view x.views
    view_in = let c = r.plan.views in let v = (r.plan.rows i lt).view in nth_in x.views (row_at p i 0) (omega arith)

    -- its head, as long as the row
    abbrev head : State → List ℕ
    head s = row (copy s (suc i)) view.block.head

    pub head-long : (s : State) → length (head s) ≡ length (r.plan.rows i lt).row
    head-long s = length-map view.block.head _ ∙ sym (r.accepted.lengths view view_in (r.plan.rows i lt).row (r.plan.rows i lt).listed)

    -- the head in numbers
    pub head-numbers : (s : State) (k b : ℕ) → k ≡ suc i → b ≡ view_block (row_at p i 0) → head_row (λ z. s (k * names + z)) (block_numbers p b) ≡ padded (head s)
    unfolding width
    head-numbers s k b e f =
        let v = (r.plan.rows i lt).view in
        ap (λ n. head_row (λ z. s (n * names + z)) (block_numbers p b)) e
        ∙ ap (λ n. head_row (λ z. s (suc i * names + z)) (block_numbers p n)) f
        ∙ head-row (r.plan.view (row_at p i 0) v) (r.views (row_at p i 0) v) (λ z. s (suc i * names + z))

    -- it is what it must be where it is the row
    pub row-met : (goal : Goal) (s : State) → head s ≡ (r.plan.rows i lt).row → (c : Copy) → In c (numbered (jobs (sheet_by goal x))) → c.number ≡ suc i → Meets (copy s c.number) c.job
    row-met goal s h c m e =
        let t = (r.plan.rows i lt).row in
        let j = copy-job goal c m i e lt in
        subst (λ n. Meets (copy s n) c.job) (sym e)
        (subst (λ (k : Job). Meets (copy s (suc i)) k) (sym j) (record {
          gives = h ∙ sym (row-con (copy s (suc i)) t);
          differ = λ d k. absurd (subst (λ l. In d l) (ap (λ (q : Job). q.block.apart) (sym j) ∙ job-plain goal c.job (numbered-job (jobs (sheet_by goal x)) c m)) k);
        }))

  -- ---- what is settled stays settled

  pub copy-kept : (goal : Goal) (h : ℕ → ℕ) (s : State) (c : Copy) → In c (numbered (jobs (sheet_by goal x))) → Keeps top h → Meets (copy s c.number) c.job → Meets (copy (after h s) c.number) c.job
  copy-kept goal h s c m k meets =
      let y = sheet_by goal x in
      let ok = (ready_task p x r goal).accepted in
      let j = numbered-job (jobs y) c m in
      meets-kept h (copy s c.number) c.job k (copy-block y ok c m).head (job_is y ok c.job j) (job-plain goal c.job j) meets

  pub settled-after : (goal : Goal) (h : ℕ → ℕ) (s : State) → Keeps top h → HeadsSettled (sheet_by goal x) s → HeadsSettled (sheet_by goal x) (after h s)
  settled-after goal h s k st c m = copy-kept goal h s c m k (st c m)
