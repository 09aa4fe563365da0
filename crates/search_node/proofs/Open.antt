-- A row of a view that is not listed: its alternatives decide.
use mathlib.Core.Path.{◌≡◌, refl, sym, ap, ◌∙◌, subst}
use mathlib.Core.Bool.{true}
use mathlib.Core.List.{List, [], ◌∷◌, map}
use mathlib.Core.Logic.{inl, inr, ⊎_elim}
use Prim.Native.Nat.{ℕ, ◌-◌, ◌<◌}
use native.Mathlib.Nat.{min-eq_left}
use native.Mathlib.Omega.{arith}
use lib.ListN.{length, get_or, length-map, get_or-eq_default}
use Rattle.list_laws.proofs.Order.{less?}
use Rattle.tableau_layout.specs.Layout.{slot_end, view_block}
use Rattle.query_meaning.specs.Meaning.{In, Answer}
use Rattle.query_meaning.specs.Blocks.{nth}
use Rattle.query_join.specs.Joins.{Given}
use Rattle.query_encoding.specs.Encoding.{padded}
use Rattle.query_encoding.proofs.Bridge.{given-answer}
use Rattle.case_verdicts.specs.Verdict.{Sheet}
use Rattle.case_verdicts.specs.Handed.{Stands, in_row}
use Rattle.case_verdicts.specs.Sheets.{top}
use Rattle.case_verdicts.specs.Tableau.{State, Good, tableau_log}
use Rattle.case_verdicts.specs.Search.{Below, Met, equations, Refuted}
use Rattle.tableau_plan.specs.Plan.{row_at, row_values, row_count, view_count, block_numbers, tableau_facts, tableau_size}
use Rattle.tableau_plan.proofs.Whole.{nth_in}
use Rattle.tableau_parts.specs.Views.{GivenAt, ListedRow, StrayAt}
use Rattle.search_task.specs.Task.{ReadyPlan, sheet_by, from_by, goal_facts}
use Rattle.search_task.proofs.Node.{shaped-log, stray-refuted}
use Rattle.search_task.proofs.Columns.{map_at, met_at, at-met, at_in, pad_at}
use Rattle.search_task.proofs.Copies as copies
use Rattle.search_task.proofs.ReadyLaws.{ready_task, ready-facts, row-constants, jobs-few}
use Rattle.search_task.specs.declared.Goal.{Goal}
use Rattle.search_slots.specs.Slots.{in_set}
use Rattle.search_links.specs.Links.{Linked, linked_state, value_under}
use Rattle.search_links.specs.Steps.{RootValue, RootValues}
use Rattle.search_links.proofs.Words.{slot-root}
use Rattle.search_links.proofs.Under.{under-constant}
use Rattle.search_reasons.specs.Reasons.{AlternativeFails}
use Rattle.search_reasons.proofs.Laws.{obeys-less}
use Rattle.search_witness.specs.Witness.{RowShown}
use Rattle.search_node.specs.Node.{FitsRow, RowOpen}
use Rattle.search_node.proofs.Roots.{obeyed_below, below-obeys, below_root}
use Rattle.search_node.proofs.Answers.{padded-values}

-- ---- values that stand

-- a made-up value of a row with unused columns stands in a column that is used
pub fits-padded : (x : Sheet) (u r a b : List ℕ) → u ≡ padded a → r ≡ padded b → length a ≡ length b → ((n : ℕ) → In n b → Stands x n) → FitsRow x u r
fits-padded x u r a b eu er same stands c few made = inl (subst (Stands x) (sym right) (stands (get_or b c 0) (at_in b c used)))
  where
    left : get_or u c 0 ≡ get_or a c 0
    left = ap (λ (l : List ℕ). get_or l c 0) eu ∙ pad_at a (4 - length a) c

    right : get_or r c 0 ≡ get_or b c 0
    right = ap (λ (l : List ℕ). get_or l c 0) er ∙ pad_at b (4 - length b) c

    used : c < length b
    used = ⊎_elim (λ (lt : c < length b). lt) (λ le. let z : get_or a c 0 ≡ 0 = get_or-eq_default a 0 (omega arith) in let l = left in absurd (omega arith)) (less? c (length b))

-- ---- what a row becomes

-- columns that are constants, and become those of u: u and they are made one
made_one : (t : State) (u r : List ℕ) → map (value_under top t) u ≡ r → ((v : ℕ) → In v r → v < top) → Met (value_under top t) (equations u r)
made_one t u r e low = at-met (value_under top t) u r (λ c a b.
    sym (map_at (value_under top t) u c a) ∙ ap (λ l. get_or l c 0) e ∙ sym (under-constant top t (get_or r c 0) (low (get_or r c 0) (at_in r c b))))

module _ (p : List ℕ) (x : Sheet) (r : ReadyPlan p x) (goal : Goal) (v : ℕ) (lt : v < view_count p) where
  -- an answer of the view, in the terms of the sheet
  given-view : (t : State) (u : List ℕ) → GivenAt p (view_block v) (goal_facts goal p t) u → (a : List ℕ) × (u ≡ padded a) × Answer (tableau_log (sheet_by goal x) t) (nth x.views v).block a
  given-view t u g =
      let y = sheet_by goal x in
      let bn = r.plan.view v lt in
      let fn = ready-facts p x r goal t in
      given-answer bn ((ready_task p x r goal).shaped v lt) fn (shaped-log p x y r.plan (ready_task p x r goal) t (goal_facts goal p t) fn)
      (subst (λ n. Given (block_numbers p (view_block v)) n (goal_facts goal p t) u) (min-eq_left bn.few) g)

  view_in : In (nth x.views v) (sheet_by goal x).views
  view_in = let c = r.plan.views in subst (λ ws. In (nth x.views v) ws) (sym (ready_task p x r goal).same) (nth_in x.views v (omega arith))

  -- a row that the view is given is as wide as its listed rows
  view-fits : (t : State) (u : List ℕ) → GivenAt p (view_block v) (goal_facts goal p t) u → (i : ℕ) → i < row_count p → row_at p i 0 ≡ v → FitsRow x u (row_values p i)
  view-fits t u g i li q =
      let (a, e, ans) = given-view t u g in
      let o = r.plan.rows i li in
      let w = nth x.views (row_at p i 0) in
      let m = copies.view_in p x r i li in
      let wide : length a ≡ length (nth x.views v).block.head = sym (ap length ans.gives) ∙ length-map (nth x.views v).block.head _ in
      fits-padded x u (row_values p i) a o.row e o.values
      (wide ∙ ap (λ (k : ℕ). length (nth x.views k).block.head) (sym q) ∙ sym (r.accepted.lengths w m o.row o.listed)) (λ n k. in_row w m o.row o.listed k)

  -- values where links end stand for themselves in the state
  kept_map : (ws : List ℕ) (u : List ℕ) → RootValues top ws u → map (value_under top (linked_state top ws)) u ≡ u
  kept_map ws [] f = refl
  kept_map ws (n ∷ u) f =
      let b : Below top (linked_state top ws) (linked_state top ws) = record { to = λ k. k; keeps = λ c h. refl; at = λ k. refl } in
      ap (λ k. k ∷ map (value_under top (linked_state top ws)) u) (sym (below_root ws (linked_state top ws) b n (f n (inl refl)))) ∙ ap (λ l. n ∷ l) (kept_map ws u (λ k m. f k (inr m)))

  -- a good state makes the row a listed one
  pub becomes-listed : (t : State) (u : List ℕ) → Good (sheet_by goal x) t → GivenAt p (view_block v) (goal_facts goal p t) (map (value_under top t) u)
      → (i : ℕ) × (i < row_count p) × (row_at p i 0 ≡ v) × Met (value_under top t) (equations u (row_values p i))
  becomes-listed t u good g =
      let (a, e, ans) = given-view t (map (value_under top t) u) g in
      let (i, li, q, f) = r.plan.every_row v lt a (good.none_more (nth x.views v) view_in a ans) in
      (i, li, q, made_one t u (row_values p i) (e ∙ sym f) (row-constants p x r i li))

  -- a row that facts show by the words of a set
  pub shown_open : {ws u old set : List ℕ} (from b : ℕ) → from ≡ from_by goal p → b ≡ view_block v → Linked top ws → length ws ≡ slot_end → RowShown p ws from b u old set → (ListedRow p v u → ⊥)
      → RowOpen p x (Good (sheet_by goal x)) ws set v u
  shown_open {ws} {u} {old} {set} from b e f linked whole s stray = record {
    size = s.size;
    roots = s.roots linked whole;
    fits = view-fits (linked_state top ws) u here;
    other = λ i li q g. stray (i, li, q, sym g);
    decide = λ more w each. record {
      none = λ t good o.
          let given = s.given t (obeys-less t ws set more w o) in
          let (i, li, q, m) = becomes-listed t u good
          (subst (λ k. GivenAt p k (goal_facts goal p t) (map (value_under top t) u)) f
          (subst (λ k. GivenAt p b (tableau_facts p t k (tableau_size p - k)) (map (value_under top t) u)) e given)) in
          (each i li q).none t good o m;
    };
  }
    where
      own : Below top (linked_state top ws) (linked_state top ws)
      own = record { to = λ k. k; keeps = λ c h. refl; at = λ k. refl }

      -- also in the state that the words hold
      here : GivenAt p (view_block v) (goal_facts goal p (linked_state top ws)) u
      here =
          subst (GivenAt p (view_block v) (goal_facts goal p (linked_state top ws))) (kept_map ws u (s.roots linked whole))
          (subst (λ k. GivenAt p k (goal_facts goal p (linked_state top ws)) (map (value_under top (linked_state top ws)) u)) f
          (subst (λ k. GivenAt p b (tableau_facts p (linked_state top ws) k (tableau_size p - k)) (map (value_under top (linked_state top ws)) u)) e
          (s.given (linked_state top ws) (λ n i. below-obeys ws (linked_state top ws) linked own n))))

  -- a row that the facts of the whole state give
  pub walk_open : (ws u set : List ℕ) → Linked top ws → length ws ≡ slot_end → ((n : ℕ) → in_set set n ≡ true) → StrayAt p (goal_facts goal p (linked_state top ws)) v u
      → RowOpen p x (Good (sheet_by goal x)) ws set v u
  walk_open ws u set linked whole full st = record {
    size = sym (ap length st.given.gives);
    roots = roots;
    fits = view-fits (linked_state top ws) u st.given;
    other = λ i li q e. st.stray (i, li, q, sym e);
    decide = λ more w each. record { none = λ t good o. (refuted more each).none t (obeyed_below ws t (λ n. o n (w n (full n)))) good };
  }
    where
      roots : RootValues top ws u
      roots n m =
          let (a, e, ans) = given-view (linked_state top ws) u st.given in
          padded-values (sheet_by goal x) (ready_task p x r goal).accepted (jobs-few p x r goal) (linked_state top ws) (RootValue top ws) (λ k h. inl h)
          (λ k h. slot-root top ws linked k (omega arith)) (nth x.views v).block ((ready_task p x r goal).accepted.views (nth x.views v) view_in) ((ready_task p x r goal).shaped v lt) a ans n
          (subst (λ l. In n l) e m)

      -- what is below the state obeys its words, and takes the row's values to what they stand for
      refuted : (more : List ℕ) → ((i : ℕ) → i < row_count p → row_at p i 0 ≡ v → AlternativeFails (Good (sheet_by goal x)) ws more u (row_values p i)) → Refuted top (sheet_by goal x) (linked_state top ws)
      refuted more each =
          stray-refuted p x (sheet_by goal x) r.plan (ready_task p x r goal) (linked_state top ws) (goal_facts goal p (linked_state top ws)) (ready-facts p x r goal (linked_state top ws)) v u st
          (λ i li q. record {
            none = λ t b met good. (each i li q).none t good (λ n e. below-obeys ws t linked b n) (at-met (value_under top t) u (row_values p i) (λ c h k.
                sym (below_root ws t b (get_or u c 0) (roots (get_or u c 0) (at_in u c h))) ∙ met_at b.to u (row_values p i) met c h k
                ∙ below_root ws t b (get_or (row_values p i) c 0) (inl (row-constants p x r i li (get_or (row_values p i) c 0) (at_in (row_values p i) c k)))));
          })
