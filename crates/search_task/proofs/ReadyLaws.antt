-- A plan of an accepted sheet serves both searches: with the question, and for an agreeing log.
use mathlib.Core.Path.{◌≡◌, refl, sym, ◌∙◌, subst}
use mathlib.Core.List.{List, [], ◌∷◌, ◌++◌, map}
use mathlib.Core.Logic.{inl, inr}
use Prim.Native.Nat.{ℕ, zero, suc, ◌-◌, ◌<◌, ◌≤◌}
use native.Mathlib.Omega.{arith}
use lib.ListN.{length, get_or, replicate}
use Rattle.tableau_layout.specs.Layout.{most_copies}
use Rattle.query_meaning.specs.Meaning.{con, In}
use Rattle.query_meaning.specs.Blocks.{nth}
use Rattle.query_encoding.specs.Encoding.{FactNumbers, padded}
use Rattle.query_encoding.proofs.Lists.{in_map}
use Rattle.query_encoding.proofs.Order.{pad_same}
use Rattle.case_verdicts.specs.Verdict.{Sheet}
use Rattle.case_verdicts.specs.Sheets.{top}
use Rattle.case_verdicts.specs.Tableau.{Job, State, jobs, numbered, later, tableau_log, bare}
use Rattle.case_verdicts.proofs.Judge.{bare-accepted}
use Rattle.tableau_plan.specs.Plan.{tableau_facts, tableau_size, row_at, row_values, row_count}
use Rattle.tableau_plan.proofs.Whole.{nth_in}
use Rattle.search_task.specs.Task.{ReadyPlan, sheet_by, from_by}
use Rattle.search_task.proofs.Node.{Task}
use Rattle.search_task.specs.declared.Goal.{Goal}
use Rattle.search_task.specs.declared.Goal.TheVariants.{Counterexample, Agreement}

numbered-at : (js : List Job) (k : ℕ) (d : Job) → k < length js → In (record { number = k; job = get_or js k d }) (numbered js)
numbered-at [] k d lt = absurd (omega arith)
numbered-at (j ∷ js) zero d lt = inl refl
numbered-at (j ∷ js) (suc k) d lt = inr (in_map later (record { number = k; job = get_or js k d }) (numbered js) (numbered-at js k d (omega arith)))

-- the copies of listed rows are the same with and without the question
copy_of_row : (goal : Goal) (x : Sheet) (k : ℕ) (d j : Job) → suc k < length (jobs x) → get_or (jobs x) (suc k) d ≡ j → In (record { number = suc k; job = j }) (numbered (jobs (sheet_by goal x)))
copy_of_row Counterexample x k d j lt e = subst (λ q. In (record { number = suc k; job = q }) (numbered (jobs x))) e (numbered-at (jobs x) (suc k) d lt)
copy_of_row Agreement x k d j lt e = subst (λ q. In (record { number = suc k; job = q }) (numbered (jobs (bare x)))) e (numbered-at (jobs (bare x)) (suc k) d lt)

-- an unused column is a constant
pub zero-small : (k n : ℕ) → In n (replicate k 0) → n < top
zero-small zero n m = absurd m
zero-small (suc k) n (inl e) = omega arith
zero-small (suc k) n (inr m) = zero-small k n m

padded-small : (l : List ℕ) (k : ℕ) → ((n : ℕ) → In n l → n < top) → (v : ℕ) → In v (l ++ replicate k 0) → v < top
padded-small [] k h v m = zero-small k v m
padded-small (n ∷ l) k h v (inl e) = h v (inl e)
padded-small (n ∷ l) k h v (inr m) = padded-small l k (λ q i. h q (inr i)) v m

module _ (p : List ℕ) (x : Sheet) (r : ReadyPlan p x) where
  row_is : (i : ℕ) (lt : i < row_count p) (t : List ℕ) → row_values p i ≡ padded t → In t (nth x.views (row_at p i 0)).rows → (r.plan.rows i lt).row ≡ t
  row_is i lt t e m =
      let o = r.plan.rows i lt in
      let c = r.plan.views in
      let h = o.view in
      let w = nth x.views (row_at p i 0) in
      let n = nth_in x.views (row_at p i 0) (omega arith) in
      pad_same o.row t (r.accepted.lengths w n o.row o.listed ∙ sym (r.accepted.lengths w n t m)) (sym o.values ∙ e)

  pub ready_task : (goal : Goal) → Task p x (sheet_by goal x)
  ready_task Counterexample = record {
    accepted = r.accepted;
    plain = r.plan.table;
    same = refl;
    shaped = r.views;
    copies = λ i lt t e m. let c = r.plan.copies in copy_of_row Counterexample x i (record { block = x.question; is = [] }) _ (omega arith) (subst (λ z. get_or (jobs x) (suc i) (record { block = x.question; is = [] }) ≡ record { block = (nth x.views (row_at p i 0)).block; is = map con z }) (row_is i lt t e m) (r.plan.rows i lt).copy);
  }
  ready_task Agreement = record {
    accepted = bare-accepted r.accepted;
    plain = r.plan.table;
    same = refl;
    shaped = r.views;
    copies = λ i lt t e m. let c = r.plan.copies in copy_of_row Agreement x i (record { block = x.question; is = [] }) _ (omega arith) (subst (λ z. get_or (jobs x) (suc i) (record { block = x.question; is = [] }) ≡ record { block = (nth x.views (row_at p i 0)).block; is = map con z }) (row_is i lt t e m) (r.plan.rows i lt).copy);
  }

  -- the facts of a state in numbers
  pub ready-facts : (goal : Goal) (s : State) → FactNumbers (tableau_facts p s (from_by goal p) (tableau_size p - from_by goal p)) (tableau_log (sheet_by goal x) s)
  ready-facts Counterexample s = subst (λ k. FactNumbers (tableau_facts p s 0 k) (tableau_log x s)) (let e : tableau_size p ≡ tableau_size p - 0 = omega arith in e) (r.plan.whole s)
  ready-facts Agreement s = r.plan.agreeing s

  pub jobs-count : (goal : Goal) → length (jobs (sheet_by goal x)) ≡ suc (row_count p)
  jobs-count Counterexample = r.plan.copies
  jobs-count Agreement = r.plan.copies

  pub jobs-few : (goal : Goal) → length (jobs (sheet_by goal x)) ≤ most_copies
  jobs-few goal = let c = jobs-count goal in let f = r.plan.rows_few in omega arith

  -- listed rows are made of constants
  pub row-constants : (i : ℕ) → i < row_count p → (v : ℕ) → In v (row_values p i) → v < top
  row-constants i lt =
      let o = r.plan.rows i lt in
      let c = r.plan.views in
      let h = o.view in
      let w = nth x.views (row_at p i 0) in
      subst (λ l. (v : ℕ) → In v l → v < top) (sym o.values) (padded-small o.row (4 - length o.row) (λ n m. r.accepted.rows w (nth_in x.views (row_at p i 0) (omega arith)) o.row o.listed n m))
