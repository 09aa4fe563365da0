-- Two atoms that clash in a key: every good state makes their rows one.
use mathlib.Core.Path.{◌≡◌, refl, sym, ap, ◌∙◌, subst}
use mathlib.Core.List.{List}
use mathlib.Core.Logic.{◌⊎◌, inl, inr, ⊎_elim}
use Prim.Native.Nat.{ℕ, ◌+◌, ◌-◌, ◌*◌, ◌/◌, ◌<◌, ◌≤◌}
use native.Mathlib.Omega.{arith}
use lib.IntN.{pos}
use lib.ListN.{length, drop, get_or}
use Rattle.list_laws.proofs.Order.{less?}
use Rattle.sheet_format.specs.Table.{columns_of}
use Rattle.sheet_terms.proofs.Laws.{key-most}
use Rattle.tableau_layout.specs.Layout.{slot_end, table_at, tableau_atoms}
use Rattle.query_meaning.specs.Meaning.{In}
use Rattle.query_encoding.proofs.Lists.{in-at}
use Rattle.case_verdicts.specs.Verdict.{Sheet}
use Rattle.case_verdicts.specs.Sheets.{top}
use Rattle.case_verdicts.specs.Tableau.{State, Good}
use Rattle.case_verdicts.specs.Search.{Met, equations}
use Rattle.tableau_plan.specs.Plan.{key_in, slot_value, tableau_at, tableau_size}
use Rattle.tableau_plan.proofs.Tableau.{tableau_length, tableau_relation, tableau_term}
use Rattle.search_task.specs.Task.{ReadyPlan, sheet_by, from_by, goal_facts}
use Rattle.search_task.specs.declared.Goal.{Goal}
use Rattle.search_task.proofs.Node.{shaped-log}
use Rattle.search_task.proofs.Columns.{at-met}
use Rattle.search_task.proofs.ReadyLaws.{ready_task, ready-facts}
use Rattle.search_links.specs.Links.{place_root, linked_state, value_under}
use Rattle.search_links.specs.Steps.{RootValue, RootValues}
use Rattle.search_links.proofs.Words.{place-slot, place-constant, place-state, place-root}
use Rattle.search_reasons.specs.Reasons.{Obeys}
use Rattle.search_keys.specs.Keys.{AlikeIn, SameKeyAt, KeyClash}
use Rattle.search_keys.specs.Clashes.{column_place, end_at, OneIn, ClashAt, RowMarked, ClashShown}
use Rattle.search_keys.proofs.Laws.{keys-made-one}
use Rattle.search_node.specs.Choices.{pair_kind, node_of_parts}
use Rattle.search_node.specs.Node.{Standing, Wordly, AtomsOf, FitsRow, Joinable, OpenState}
use Rattle.search_node.proofs.Choices.{pair_open}
use Rattle.search_node.proofs.Roots.{slot-stands}
use Rattle.search_node.proofs.Terms.{column-used, constant-stands, term-place}

module _ (p : List ℕ) (x : Sheet) (r : ReadyPlan p x) (goal : Goal) where
  -- the numbers of atom i's fact, where the search has it
  module _ (s : State) (i : ℕ) (from : from_by goal p ≤ i) (inside : i < tableau_size p) where
    relation_here : get_or (goal_facts goal p s) ((i - from_by goal p) * 5) 0 ≡ tableau_at p i 0
    relation_here = tableau_relation p s (from_by goal p) (tableau_size p - from_by goal p) (i - from_by goal p) (omega arith) ∙ ap (λ k. tableau_at p k 0) (let e : from_by goal p + (i - from_by goal p) ≡ i = omega arith in e)

    value_here : (c : ℕ) → c < 4 → get_or (goal_facts goal p s) ((i - from_by goal p) * 5 + 1 + c) 0 ≡ slot_value s (column_place p i c)
    value_here c lc = tableau_term p s (from_by goal p) (tableau_size p - from_by goal p) (i - from_by goal p) c (omega arith) lc
        ∙ ap (λ k. slot_value s (get_or p k 0)) (let e : (from_by goal p + (i - from_by goal p)) * 5 + 1 + c ≡ i * 5 + (1 + c) = omega arith in e)

  many : (s : State) → length (goal_facts goal p s) / 5 ≡ tableau_size p - from_by goal p
  many s = let l = tableau_length p s (from_by goal p) (tableau_size p - from_by goal p) in omega arith

  pub clash-few : (ws : List ℕ) (i k : ℕ) → KeyClash p (goal_facts goal p (linked_state top ws)) i k → (from_by goal p + i < tableau_atoms) × (from_by goal p + k < tableau_atoms)
  clash-few ws i k h = let m = many (linked_state top ws) in let few = r.plan.few in let a = h.left in let b = h.right in (omega arith, omega arith)

  -- ---- facts of the state that clash are atoms that do

  pub clash-atoms : (ws : List ℕ) (i k : ℕ) → KeyClash p (goal_facts goal p (linked_state top ws)) i k → AtomsOf goal p (from_by goal p + i) (from_by goal p + k) × ClashAt p ws (from_by goal p + i) (from_by goal p + k)
  clash-atoms ws i k h = (
    record { left = (omega arith, li); right = (omega arith, lk) },
    record {
      relation = rel;
      some = subst (λ n. 0 < key_in p n) (sym (relation i li)) h.key.some;
      first = λ c lt. let few = key-most (drop table_at p) (tableau_at p (from_by goal p + i) 0) in one c (omega arith) (h.key.first c (subst (λ n. c < key_in p n) (relation i li) lt));
      differ = λ all. h.differ (λ c lt. value i li c lt ∙ all c lt ∙ sym (value k lk c lt));
    },
  )
    where
      li : from_by goal p + i < tableau_size p
      li = let m = many (linked_state top ws) in let l = h.left in omega arith

      lk : from_by goal p + k < tableau_size p
      lk = let m = many (linked_state top ws) in let l = h.right in omega arith

      relation : (j : ℕ) → from_by goal p + j < tableau_size p → tableau_at p (from_by goal p + j) 0 ≡ get_or (goal_facts goal p (linked_state top ws)) (j * 5) 0
      relation j lj = sym (relation_here (linked_state top ws) (from_by goal p + j) (omega arith) lj) ∙ ap (λ n. get_or (goal_facts goal p (linked_state top ws)) n 0) (let e : (from_by goal p + j - from_by goal p) * 5 ≡ j * 5 = omega arith in e)

      value : (j : ℕ) → from_by goal p + j < tableau_size p → (c : ℕ) → c < 4 → get_or (goal_facts goal p (linked_state top ws)) (j * 5 + 1 + c) 0 ≡ end_at p ws (from_by goal p + j) c
      value j lj c lc = ap (λ n. get_or (goal_facts goal p (linked_state top ws)) n 0) (let e : j * 5 + 1 + c ≡ (from_by goal p + j - from_by goal p) * 5 + 1 + c = omega arith in e)
          ∙ value_here (linked_state top ws) (from_by goal p + j) (omega arith) lj c lc ∙ sym (place-state top ws (column_place p (from_by goal p + j) c))

      rel : tableau_at p (from_by goal p + i) 0 ≡ tableau_at p (from_by goal p + k) 0
      rel = relation i li ∙ h.key.relation ∙ sym (relation k lk)

      one : (c : ℕ) → c < 4 → get_or (goal_facts goal p (linked_state top ws)) (i * 5 + 1 + c) 0 ≡ get_or (goal_facts goal p (linked_state top ws)) (k * 5 + 1 + c) 0 → end_at p ws (from_by goal p + i) c ≡ end_at p ws (from_by goal p + k) c
      one c lc e = sym (value i li c lc) ∙ e ∙ value k lk c lc

  -- ---- the node of two atoms

  module _ (ws : List ℕ) (w : Wordly x (sheet_by goal x) ws) (i k : ℕ) (of : AtomsOf goal p i k) (clash : ClashAt p ws i k) (set u v : List ℕ) (shown : ClashShown p ws i k set u v) where
    abbrev key : ℕ
    key = key_in p (tableau_at p i 0)

    -- a good state that obeys the set has one row for both
    one-row : (t : State) → Good (sheet_by goal x) t → Obeys t ws set → (c : ℕ) → c < 4 → slot_value t (column_place p i c) ≡ slot_value t (column_place p k c)
    one-row t good o c lc =
        sym (value_here t i of.left.0 of.left.1 c lc) ∙ alike c lc ∙ value_here t k of.right.0 of.right.1 c lc
      where
        same : SameKeyAt p (goal_facts goal p t) (i - from_by goal p) (k - from_by goal p)
        same = record {
          relation = relation_here t i of.left.0 of.left.1 ∙ clash.relation ∙ sym (relation_here t k of.right.0 of.right.1);
          some = subst (λ n. 0 < key_in p n) (sym (relation_here t i of.left.0 of.left.1)) clash.some;
          first = λ d lt.
              let ld : d < key = subst (λ n. d < key_in p n) (relation_here t i of.left.0 of.left.1) lt in
              let few : d < 4 = let f = key-most (drop table_at p) (tableau_at p i 0) in omega arith in
              value_here t i of.left.0 of.left.1 d few ∙ shown.first d ld (clash.first d ld) t o ∙ sym (value_here t k of.right.0 of.right.1 d few);
        }

        alike : AlikeIn (goal_facts goal p t) (i - from_by goal p) (k - from_by goal p) 4
        alike =
            let m = many t in
            let a = of.left.0 in
            let b = of.left.1 in
            let d = of.right.0 in
            let e = of.right.1 in
            keys-made-one p (ready_task p x r goal).plain (ready-facts p x r goal t) (shaped-log p x (sheet_by goal x) r.plan (ready_task p x r goal) t (goal_facts goal p t) (ready-facts p x r goal t)) good.keyed
            (i - from_by goal p) (k - from_by goal p) (omega arith) (omega arith) same

    made : (t : State) → Good (sheet_by goal x) t → Obeys t ws set → Met (value_under top t) (equations u v)
    made t good o = at-met (value_under top t) u v (λ c a b. let l = shown.left.size in column c (omega arith))
      where
        column : (c : ℕ) → c < 4 → value_under top t (get_or u c 0) ≡ value_under top t (get_or v c 0)
        column c lc = ⊎_elim
            (λ lt. ap (value_under top t) (shown.left.zero c lc lt ∙ sym (shown.right.zero c lc lt)))
            (λ le. sym (shown.left.reads c lc le t o) ∙ one-row t good o c lc ∙ shown.right.reads c lc le t o)
            (less? c key)

    -- what stands in the rows
    roots : (j : ℕ) (row : List ℕ) → j < tableau_size p → RowMarked p ws j key set set row → RootValues top ws row
    roots j row lj m n in_row =
        let (c, lc, e) = in-at 0 n row in_row in
        let l = m.size in
        let four : c < 4 = omega arith in
        subst (RootValue top ws) e (⊎_elim
        (λ lt. let z = m.zero c four lt in inl (omega arith))
        (λ le. subst (RootValue top ws) (sym (m.rest c four le)) (place-root top ws w.linked w.size (column_place p j c) (λ past. let h = term-place p x r j lj c four in omega arith)))
        (less? c key))

    stands : (j : ℕ) → j < tableau_size p → (c : ℕ) → c < 4 → c < columns_of x.table (pos (tableau_at p j 0)) → Standing x (end_at p ws j c)
    stands j lj c lc few = ⊎_elim
        (λ h. subst (Standing x) (sym (place-slot top ws (column_place p j c) h)) (slot-stands x ws (λ n l. let z = w.size in w.stood n (omega arith)) (column_place p j c) h))
        (λ h. subst (Standing x) (sym (place-constant top ws (column_place p j c) h)) (constant-stands p x r j c lj lc few h))
        (less? (column_place p j c) slot_end)

    fits : (a b : ℕ) (row other : List ℕ) → a < tableau_size p → b < tableau_size p → tableau_at p a 0 ≡ tableau_at p b 0 → RowMarked p ws a key set set row → RowMarked p ws b key set set other → FitsRow x row other
    fits a b row other la lb e m n c lc high = ⊎_elim
        (λ lt. let z = m.zero c lc lt in absurd (omega arith))
        (λ le.
        let q = m.rest c lc le in
        let s = place-state top ws (column_place p a c) in
        let few = column-used p x r (linked_state top ws) a c la lc (omega arith) in
        subst (Standing x) (sym (n.rest c lc le)) (stands b lb c lc (subst (λ k. c < columns_of x.table (pos k)) e few)))
        (less? c key)

    join : Joinable x ws u v
    join = record {
      left = roots i u of.left.1 shown.left;
      right = roots k v of.right.1 shown.right;
      fits = fits i k u v of.left.1 of.right.1 clash.relation shown.left shown.right;
      back = fits k i v u of.right.1 of.left.1 (sym clash.relation) shown.right shown.left;
      other = λ e. clash.differ (λ c lc. ⊎_elim
          (λ lt. clash.first c lt)
          (λ le. sym (shown.left.rest c lc le) ∙ ap (λ (l : List ℕ). get_or l c 0) e ∙ shown.right.rest c lc le)
          (less? c key));
    }

    pub key_open : OpenState p x (Good (sheet_by goal x)) ws set (node_of_parts pair_kind 0 u v)
    key_open = pair_open p x (Good (sheet_by goal x)) ws set 0 u v shown.left.size shown.right.size join made
