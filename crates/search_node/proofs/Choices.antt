-- The alternatives of a node by its kind, and what opens one.
use mathlib.Core.Path.{◌≡◌, refl, sym, ap, ◌∙◌, subst}
use mathlib.Core.Bool.{Bool, true, false, cond}
use mathlib.Core.List.{List, [], ◌∷◌}
use mathlib.Core.Logic.{◌⊎◌, inl, inr, ⊎_elim}
use Prim.Native.Nat.{ℕ, zero, suc, ◌+◌, ◌<◌, ◌≤◌, min}
use native.Mathlib.Omega.{arith}
use borrow.Author.Tests.{eqb-true, eqb-false, eq-eqb, ne_eqb}
use lib.Dec.{eqb}
use lib.ListN.{length, get_or}
use Rattle.list_laws.proofs.Order.{less?}
use Rattle.sheet_format.specs.Limits.{most_rows}
use Rattle.tableau_layout.specs.Layout.{slot_end}
use Rattle.query_meaning.specs.Meaning.{In}
use Rattle.case_verdicts.specs.Verdict.{Sheet}
use Rattle.case_verdicts.specs.Sheets.{top}
use Rattle.case_verdicts.specs.Tableau.{State, Good}
use Rattle.case_verdicts.specs.Search.{Met, equations}
use Rattle.case_verdicts.proofs.Decide.{same?}
use Rattle.tableau_plan.specs.Plan.{row_at, row_values, row_count}
use Rattle.search_task.specs.Task.{ReadyPlan}
use Rattle.search_task.proofs.Columns.{at-met, at_in}
use Rattle.search_task.proofs.ReadyLaws.{row-constants}
use Rattle.search_slots.specs.Slots.{SetWithin}
use Rattle.search_links.specs.Links.{value_under}
use Rattle.search_links.specs.Steps.{RootValue, RootValues}
use Rattle.search_reasons.specs.Reasons.{Obeys, RestsOn, AlternativeFails}
use Rattle.search_reasons.proofs.Laws.{obeys-less}
use Rattle.search_node.specs.Choices.{rows_kind, pair_kind, each_kind, left_at, right_at, node_kind, node_number, node_hint, node_row, one_value, node_of_parts, part_of, left_of, right_of, how_many, LiveAt, LiveBy}
use Rattle.search_node.specs.Node.{Standing, FitsRow, RowOpen, Joinable, OpenState}

-- ---- by kinds

module _ (node : List ℕ) where
  pub part-each : (at k : ℕ) → node_kind node ≡ each_kind → part_of node at k ≡ one_value (get_or node (at + k) 0)
  unfolding part_of
  part-each at k e = rw (eq-eqb (node_kind node) each_kind e)

  pub part-whole : (at k : ℕ) → (node_kind node ≡ each_kind → ⊥) → part_of node at k ≡ node_row node at
  unfolding part_of
  part-whole at k off = rw (ne_eqb (node_kind node) each_kind off)

  pub part-four : (at k : ℕ) → length (part_of node at k) ≡ 4
  part-four at k = go (same? (node_kind node) each_kind)
    where
      go : Dec (node_kind node ≡ each_kind) → length (part_of node at k) ≡ 4
      go (yes e) = ap length (part-each at k e)
      go (no off) = ap length (part-whole at k off)

  pub hint_rows : node_kind node ≡ rows_kind → get_or node right_at 0 ≡ node_hint node
  unfolding node_hint
  hint_rows e = rw (eq-eqb (node_kind node) rows_kind e)

  pub hint_none : (node_kind node ≡ rows_kind → ⊥) → 0 ≡ node_hint node
  unfolding node_hint
  hint_none off = rw (ne_eqb (node_kind node) rows_kind off)

  module _ (p : List ℕ) where
    pub right-rows : (k : ℕ) → node_kind node ≡ rows_kind → right_of p node k ≡ row_values p k
    unfolding right_of
    right-rows k e = rw (eq-eqb (node_kind node) rows_kind e)

    pub right-part : (k : ℕ) → (node_kind node ≡ rows_kind → ⊥) → right_of p node k ≡ part_of node right_at k
    unfolding right_of
    right-part k off = rw (ne_eqb (node_kind node) rows_kind off)

    pub right-four : (k : ℕ) → length (right_of p node k) ≡ 4
    right-four k = go (same? (node_kind node) rows_kind)
      where
        go : Dec (node_kind node ≡ rows_kind) → length (right_of p node k) ≡ 4
        go (yes e) = ap length (right-rows k e)
        go (no off) = ap length (right-part k off) ∙ part-four right_at k

    pub many-rows : node_kind node ≡ rows_kind → how_many p node ≡ row_count p
    unfolding how_many
    many-rows e = rw (eq-eqb (node_kind node) rows_kind e)

    pub many-each : node_kind node ≡ each_kind → how_many p node ≡ min (node_number node) 4
    unfolding how_many
    many-each e = rw (ne_eqb (node_kind node) rows_kind (λ z. omega arith), eq-eqb (node_kind node) each_kind e)

    pub many-one : (node_kind node ≡ rows_kind → ⊥) → (node_kind node ≡ each_kind → ⊥) → how_many p node ≡ 1
    unfolding how_many
    many-one off out = rw (ne_eqb (node_kind node) rows_kind off, ne_eqb (node_kind node) each_kind out)

    -- no more than rows may be listed
    pub many-few : row_count p ≤ most_rows → how_many p node ≤ most_rows
    many-few few = go (same? (node_kind node) rows_kind) (same? (node_kind node) each_kind)
      where
        go : Dec (node_kind node ≡ rows_kind) → Dec (node_kind node ≡ each_kind) → how_many p node ≤ most_rows
        go (yes e) d = let m = many-rows e in omega arith
        go (no off) (yes e) = let m = many-each e in omega arith
        go (no off) (no out) = let m = many-one off out in omega arith

    -- an alternative that is a column is one of four
    pub part-inside : (k : ℕ) → k < how_many p node → (k < 4) ⊎ (node_kind node ≡ each_kind → ⊥)
    part-inside k lt = go (same? (node_kind node) each_kind)
      where
        go : Dec (node_kind node ≡ each_kind) → (k < 4) ⊎ (node_kind node ≡ each_kind → ⊥)
        go (yes e) = let m = many-each e in inl (omega arith)
        go (no off) = inr off

    -- a listed row is live if its view is the node's
    pub live-row : (k v : ℕ) → node_kind node ≡ rows_kind → v ≡ row_at p k 0 → LiveBy (eqb v (node_number node)) p node k
    live-row k v kind is = go (eqb v (node_number node)) refl
      where
        go : (b : Bool) → eqb v (node_number node) ≡ b → LiveBy b p node k
        go true e = λ z. sym is ∙ eqb-true v (node_number node) e
        go false e = λ live. eqb-false v (node_number node) e (is ∙ live.listed kind)

-- ---- nodes by their parts

pub four : (row : List ℕ) → length row ≡ 4 → node_row row 0 ≡ row
four (u ∷ v ∷ w ∷ x ∷ []) e = refl
four [] e = absurd (omega arith)
four (u ∷ []) e = absurd (omega arith)
four (u ∷ v ∷ []) e = absurd (omega arith)
four (u ∷ v ∷ w ∷ []) e = absurd (omega arith)
four (u ∷ v ∷ w ∷ x ∷ y ∷ l) e = absurd (omega arith)

left-value : (kind number : ℕ) (a b : List ℕ) (k : ℕ) → k < 4 → get_or (node_of_parts kind number a b) (left_at + k) 0 ≡ get_or a k 0
left-value kind number a b zero lt = refl
left-value kind number a b (suc zero) lt = refl
left-value kind number a b (suc (suc zero)) lt = refl
left-value kind number a b (suc (suc (suc zero))) lt = refl
left-value kind number a b (suc (suc (suc (suc k)))) lt = absurd (omega arith)

right-value : (kind number : ℕ) (a b : List ℕ) (k : ℕ) → k < 4 → get_or (node_of_parts kind number a b) (right_at + k) 0 ≡ get_or b k 0
right-value kind number a b zero lt = refl
right-value kind number a b (suc zero) lt = refl
right-value kind number a b (suc (suc zero)) lt = refl
right-value kind number a b (suc (suc (suc zero))) lt = refl
right-value kind number a b (suc (suc (suc (suc k)))) lt = absurd (omega arith)

-- the same rows by other names
both-rows : (P : List ℕ → List ℕ → Type 0) {a b u r : List ℕ} → a ≡ u → b ≡ r → P u r → P a b
both-rows P {a} {b} {u} {r} e f m = subst (λ (l : List ℕ). P l b) (sym e) (subst (λ (l : List ℕ). P u l) (sym f) m)

-- ---- what opens a node

module _ (p : List ℕ) (x : Sheet) (G : State → Type 0) (ws set : List ℕ) where
  -- a row that a view is given and that is not listed
  pub rows_open : ReadyPlan p x → (view : ℕ) (u b : List ℕ) → RowOpen p x G ws set view u → OpenState p x G ws set (node_of_parts rows_kind view u b)
  rows_open r view u b o = record {
    joinable = λ k live.
        let lt : k < row_count p = let m = many in let i = live.inside in omega arith in
        both-rows (Joinable x ws) (left k) (right k) record {
          left = o.roots;
          right = λ v m. inl (row-constants p x r k lt v m);
          fits = o.fits k lt (live.listed refl);
          back = λ c few made. let z = row-constants p x r k lt (get_or (row_values p k) c 0) (at_in (row_values p k) c few) in absurd (omega arith);
          other = o.other k lt (live.listed refl);
        };
    decide = λ s w each. o.decide s w (λ i lt is. both-rows (AlternativeFails G ws s) (sym (left i)) (sym (right i)) (each i record { inside = let m = many in omega arith; listed = λ e. is }));
  }
    where
      node : List ℕ
      node = node_of_parts rows_kind view u b

      many : how_many p (node_of_parts rows_kind view u b) ≡ row_count p
      many = many-rows (node_of_parts rows_kind view u b) p refl

      left : (k : ℕ) → left_of (node_of_parts rows_kind view u b) k ≡ u
      left k = part-whole (node_of_parts rows_kind view u b) left_at k (λ e. let z : ◌≡◌ {A = ℕ} 0 2 = e in omega arith) ∙ four u o.size

      right : (k : ℕ) → right_of p (node_of_parts rows_kind view u b) k ≡ row_values p k
      right k = right-rows (node_of_parts rows_kind view u b) p k refl

  -- two rows that every good state makes one
  pub pair_open : (number : ℕ) (a b : List ℕ) → length a ≡ 4 → length b ≡ 4 → Joinable x ws a b
      → ((t : State) → G t → Obeys t ws set → Met (value_under top t) (equations a b)) → OpenState p x G ws set (node_of_parts pair_kind number a b)
  pair_open number a b la lb join made = record {
    joinable = λ k live. both-rows (Joinable x ws) (left k) (right k) join;
    decide = λ s w each. record {
      none = λ t good o.
          (both-rows (AlternativeFails G ws s) (sym (left 0)) (sym (right 0))
          (each 0 record { inside = let m = many-one (node_of_parts pair_kind number a b) p not-rows not-each in omega arith; listed = λ e. absurd (not-rows e) })
          ).none t good o (made t good (obeys-less t ws set s w o));
    };
  }
    where
      not-rows : node_kind (node_of_parts pair_kind number a b) ≡ rows_kind → ⊥
      not-rows e = let z : ◌≡◌ {A = ℕ} 1 0 = e in omega arith

      not-each : node_kind (node_of_parts pair_kind number a b) ≡ each_kind → ⊥
      not-each e = let z : ◌≡◌ {A = ℕ} 1 2 = e in omega arith

      left : (k : ℕ) → left_of (node_of_parts pair_kind number a b) k ≡ a
      left k = part-whole (node_of_parts pair_kind number a b) left_at k not-each ∙ four a la

      right : (k : ℕ) → right_of p (node_of_parts pair_kind number a b) k ≡ b
      right k = right-part (node_of_parts pair_kind number a b) p k not-rows ∙ part-whole (node_of_parts pair_kind number a b) right_at k not-each ∙ four b lb

  -- pairs of values of which every good state makes one pair one
  pub each_open : (count : ℕ) (a b : List ℕ) → count ≤ 4 → ((k : ℕ) → k < count → Joinable x ws (one_value (get_or a k 0)) (one_value (get_or b k 0)))
      → ((t : State) → G t → Obeys t ws set → (k : ℕ) × (k < count) × (value_under top t (get_or a k 0) ≡ value_under top t (get_or b k 0)))
      → OpenState p x G ws set (node_of_parts each_kind count a b)
  each_open count a b few join made = record {
    joinable = λ k live.
        let lt : k < count = let m = many in let i = live.inside in omega arith in
        both-rows (Joinable x ws) (left k lt) (right k lt) (join k lt);
    decide = λ s w each. record {
      none = λ t good o.
          let (k, lt, e) = made t good (obeys-less t ws set s w o) in
          (both-rows (AlternativeFails G ws s) (sym (left k lt)) (sym (right k lt)) (each k record { inside = let m = many in omega arith; listed = λ z. absurd (not-rows z) })
          ).none t good o (at-met (value_under top t) (one_value (get_or a k 0)) (one_value (get_or b k 0)) (columns t k e));
    };
  }
    where
      not-rows : node_kind (node_of_parts each_kind count a b) ≡ rows_kind → ⊥
      not-rows e = let z : ◌≡◌ {A = ℕ} 2 0 = e in omega arith

      many : how_many p (node_of_parts each_kind count a b) ≡ count
      many = many-each (node_of_parts each_kind count a b) p refl ∙ (let z : min count 4 ≡ count = omega arith in z)

      left : (k : ℕ) → k < count → left_of (node_of_parts each_kind count a b) k ≡ one_value (get_or a k 0)
      left k lt = part-each (node_of_parts each_kind count a b) left_at k refl ∙ ap one_value (left-value each_kind count a b k (omega arith))

      right : (k : ℕ) → k < count → right_of p (node_of_parts each_kind count a b) k ≡ one_value (get_or b k 0)
      right k lt = right-part (node_of_parts each_kind count a b) p k not-rows ∙ part-each (node_of_parts each_kind count a b) right_at k refl
          ∙ ap one_value (right-value each_kind count a b k (omega arith))

      columns : (t : State) (k : ℕ) → value_under top t (get_or a k 0) ≡ value_under top t (get_or b k 0) → (c : ℕ) → c < 4 → c < 4
          → value_under top t (get_or (one_value (get_or a k 0)) c 0) ≡ value_under top t (get_or (one_value (get_or b k 0)) c 0)
      columns t k e zero h g = e
      columns t k e (suc zero) h g = refl
      columns t k e (suc (suc zero)) h g = refl
      columns t k e (suc (suc (suc zero))) h g = refl
      columns t k e (suc (suc (suc (suc c)))) h g = absurd (omega arith)

  -- no alternatives
  pub shut_open : (a b : List ℕ) → RestsOn G ws set → OpenState p x G ws set (node_of_parts each_kind 0 a b)
  shut_open a b rests = each_open 0 a b (omega arith) (λ k lt. absurd (omega arith)) (λ t good o. absurd (rests.none t good o))

-- two roots that differ and stand
pub one-joinable : (x : Sheet) (ws : List ℕ) (a b : ℕ) → RootValue top ws a → RootValue top ws b → Standing x a → Standing x b → (a ≡ b → ⊥) → Joinable x ws (one_value a) (one_value b)
one-joinable x ws a b f g sa sb other = record {
  left = roots a f;
  right = roots b g;
  fits = fits a b sb;
  back = fits b a sa;
  other = λ e. other (ap (λ (l : List ℕ). get_or l 0 0) e);
}
  where
    roots : (n : ℕ) → RootValue top ws n → RootValues top ws (one_value n)
    roots n h v (inl e) = subst (RootValue top ws) (sym e) h
    roots n h v (inr (inl e)) = inl (omega arith)
    roots n h v (inr (inr (inl e))) = inl (omega arith)
    roots n h v (inr (inr (inr (inl e)))) = inl (omega arith)
    roots n h v (inr (inr (inr (inr m)))) = absurd m

    fits : (m n : ℕ) → Standing x n → FitsRow x (one_value m) (one_value n)
    fits m n s zero lt made = s
    fits m n s (suc zero) lt made = absurd (omega arith)
    fits m n s (suc (suc zero)) lt made = absurd (omega arith)
    fits m n s (suc (suc (suc zero))) lt made = absurd (omega arith)
    fits m n s (suc (suc (suc (suc c)))) lt made = absurd (omega arith)
