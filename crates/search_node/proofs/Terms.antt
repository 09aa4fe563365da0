-- The constants of the tableau stand in the sheet.
use mathlib.Core.Path.{◌≡◌, sym, ap, ◌∙◌, subst}
use mathlib.Core.List.{List, [], ◌∷◌, map}
use mathlib.Core.Logic.{◌⊎◌, inl, inr, ⊎_elim}
use Prim.Native.Nat.{ℕ, zero, suc, ◌+◌, ◌-◌, ◌*◌, ◌<◌, ◌≤◌}
use native.Mathlib.Omega.{arith}
use lib.IntN.{pos}
use lib.ListN.{length, get_or, get_or-eq_default}
use Rattle.list_laws.proofs.Order.{less?}
use Rattle.sheet_format.specs.Table.{columns_of}
use Rattle.query_layout.specs.Layout.{names}
use Rattle.tableau_layout.specs.Layout.{slot_end}
use Rattle.query_meaning.specs.Meaning.{In, fact}
use Rattle.query_encoding.specs.Encoding.{fact_at}
use Rattle.query_encoding.proofs.Lists.{at_in, map_in}
use Rattle.case_verdicts.specs.Verdict.{Sheet}
use Rattle.case_verdicts.specs.Sheets.{top}
use Rattle.case_verdicts.specs.Accepted.{width}
use Rattle.case_verdicts.specs.Handed.{Stands}
use Rattle.case_verdicts.specs.Tableau.{State, jobs, tableau_log}
use Rattle.case_verdicts.specs.Search.{free}
use Rattle.case_verdicts.proofs.Known.{slots, of_upto, known-log, stands-small}
use Rattle.tableau_plan.specs.Plan.{slot_value, tableau_at, tableau_facts, tableau_size}
use Rattle.tableau_plan.proofs.Tableau.{tableau_length, tableau_relation, tableau_term}
use Rattle.search_task.specs.Task.{ReadyPlan}
use Rattle.search_task.specs.declared.Goal.TheVariants.{Counterexample}
use Rattle.search_task.proofs.Node.{shaped-log}
use Rattle.search_task.proofs.ReadyLaws.{ready_task}
use Rattle.search_reasons.specs.Reasons.{Place}
use Rattle.search_keys.specs.Clashes.{Places}
use Rattle.search_reasons.proofs.Ways.{constant-value}
use Rattle.search_node.specs.Node.{Standing, TableauTerm}

-- a column that is not 0 is one of the row's
used : (l : List ℕ) (c : ℕ) → 0 < get_or l c 0 → c < length l
used l c some = ⊎_elim (λ h. h) (λ h. let z = get_or-eq_default l 0 h in absurd (omega arith)) (less? c (length l))

module _ (p : List ℕ) (x : Sheet) (r : ReadyPlan p x) where
  count : (s : State) → length (tableau_log x s) ≡ tableau_size p
  count s = let a = (r.plan.whole s).count in let b = tableau_length p s 0 (tableau_size p) in omega arith

  here : (s : State) (i : ℕ) → i < tableau_size p → In (fact_at (tableau_log x s) i) (tableau_log x s)
  here s i li = let n = count s in at_in (fact 0 []) (tableau_log x s) i (omega arith)

  -- the values of an atom's fact
  column-is : (s : State) (i c : ℕ) → i < tableau_size p → c < 4 → get_or (fact_at (tableau_log x s) i).row c 0 ≡ slot_value s (tableau_at p i (1 + c))
  column-is s i c li lc =
      let n = count s in
      sym ((r.plan.whole s).values i (omega arith) c lc) ∙ tableau_term p s 0 (tableau_size p) i c li lc
      ∙ ap (λ k. slot_value s (get_or p k 0)) (let q : (0 + i) * 5 + 1 + c ≡ i * 5 + (1 + c) = omega arith in q)

  -- it has as many as its relation has columns
  row-long : (s : State) (i : ℕ) → i < tableau_size p → length (fact_at (tableau_log x s) i).row ≡ columns_of x.table (pos (tableau_at p i 0))
  row-long s i li =
      let n = count s in
      let fn = r.plan.whole s in
      (shaped-log p x x r.plan (ready_task p x r Counterexample) s (tableau_facts p s 0 (tableau_size p)) fn (fact_at (tableau_log x s) i) (here s i li)).0
      ∙ ap (λ k. columns_of x.table (pos k)) (sym (fn.relation i (omega arith)) ∙ tableau_relation p s 0 (tableau_size p) i li ∙ ap (λ k. tableau_at p k 0) (let q : 0 + i ≡ i = omega arith in q))

  -- a value that is not 0 stands in one of them
  pub column-used : (s : State) (i c : ℕ) → i < tableau_size p → c < 4 → 0 < slot_value s (tableau_at p i (1 + c)) → c < columns_of x.table (pos (tableau_at p i 0))
  column-used s i c li lc some =
      let e = column-is s i c li lc in
      let l = row-long s i li in
      let h = used (fact_at (tableau_log x s) i).row c (omega arith) in
      omega arith

  -- the value of such a column, if it is no slot's
  known-column : (s : State) (i c : ℕ) → i < tableau_size p → c < 4 → c < columns_of x.table (pos (tableau_at p i 0))
      → Stands x (slot_value s (tableau_at p i (1 + c))) ⊎ In (slot_value s (tableau_at p i (1 + c))) (map s (slots x))
  known-column s i c li lc few =
      known-log x r.accepted s (fact_at (tableau_log x s) i) (here s i li) (slot_value s (tableau_at p i (1 + c)))
      (subst (λ v. In v (fact_at (tableau_log x s) i).row) (column-is s i c li lc) (at_in 0 (fact_at (tableau_log x s) i).row c (let l = row-long s i li in omega arith)))

  -- a constant of the tableau stands, 0 in a column that the relation has
  pub constant-stands : (i c : ℕ) → i < tableau_size p → c < 4 → c < columns_of x.table (pos (tableau_at p i 0)) → slot_end ≤ tableau_at p i (1 + c) → Standing x (tableau_at p i (1 + c) - slot_end)
  unfolding width
  constant-stands i c li lc few past =
      subst (Standing x) (constant-value (free top) (tableau_at p i (1 + c)) past) (⊎_elim (λ k. inl k) slot (known-column (free top) i c li lc few))
    where
      slot : In (slot_value (free top) (tableau_at p i (1 + c))) (map (free top) (slots x)) → Standing x (slot_value (free top) (tableau_at p i (1 + c)))
      slot j =
          let (k, w, q) = map_in (free top) (slot_value (free top) (tableau_at p i (1 + c))) (slots x) j in
          let h = of_upto (length (jobs x) * names) k w in
          let n = r.plan.copies in
          let f = r.plan.rows_few in
          inr (omega arith, omega arith)

  -- 0 also stands in columns that a relation lacks
  pub term-stands : (v : ℕ) → 0 < v → TableauTerm p (slot_end + v) → Standing x v
  term-stands v some (i, li, (c, lc, e)) =
      let is : tableau_at p i (1 + c) - slot_end ≡ v = omega arith in
      let past : slot_end ≤ tableau_at p i (1 + c) = omega arith in
      let value = constant-value (free top) (tableau_at p i (1 + c)) past in
      subst (Standing x) is (constant-stands i c li lc (column-used (free top) i c li lc (omega arith)) past)

  -- a term is a slot, or a constant
  pub term-place : (i : ℕ) → i < tableau_size p → Places p i
  term-place i li c lc = ⊎_elim (λ h. omega arith) constant (less? (tableau_at p i (1 + c)) slot_end)
    where
      constant : slot_end ≤ tableau_at p i (1 + c) → Place (tableau_at p i (1 + c))
      constant past = ⊎_elim (λ none. omega arith) some (less? (tableau_at p i (1 + c) - slot_end) 1)
        where
          value : slot_value (λ n. 0) (tableau_at p i (1 + c)) ≡ tableau_at p i (1 + c) - slot_end
          value = constant-value (λ n. 0) (tableau_at p i (1 + c)) past

          zero : In (slot_value (λ n. 0) (tableau_at p i (1 + c))) (map (λ n. 0) (slots x)) → slot_value (λ n. 0) (tableau_at p i (1 + c)) ≡ 0
          zero j = let (k, w, q) = map_in (λ n. 0) (slot_value (λ n. 0) (tableau_at p i (1 + c))) (slots x) j in q

          some : 1 ≤ tableau_at p i (1 + c) - slot_end → Place (tableau_at p i (1 + c))
          some h =
              let e = value in
              ⊎_elim
              (λ k. let l = stands-small x r.accepted (slot_value (λ n. 0) (tableau_at p i (1 + c))) k in omega arith)
              (λ j. let z = zero j in absurd (omega arith))
              (known-column (λ n. 0) i c li lc (column-used (λ n. 0) i c li lc (omega arith)))
