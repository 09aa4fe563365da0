-- What atoms of the tableau show that are read as the atoms of a block: a column more, an atom more, the head, and all of it together.
use mathlib.Core.Path.{◌≡◌, refl, sym, ap, ◌∙◌, subst}
use mathlib.Core.Bool.{Bool, true, false, cond, true≢false}
use mathlib.Core.List.{List, [], ◌∷◌, map}
use mathlib.Core.Logic.{inl, inr, ⊎_elim}
use Prim.Native.Nat.{ℕ, zero, suc, ◌+◌, ◌-◌, ◌*◌, ◌<◌, ◌≤◌, min}
use native.Mathlib.Omega.{arith}
use borrow.Author.Count.{below_more}
use borrow.Author.Tests.{lt-ltb, le-ltb}
use lib.ListN.{length, get_or}
use Rattle.list_laws.proofs.Order.{less?}
use Rattle.sheet_format.specs.Limits.{most_atoms}
use Rattle.query_layout.specs.Layout.{block_head, block_width, names}
use Rattle.tableau_layout.specs.Layout.{blocks_at, question_block, slot_end}
use Rattle.query_meaning.specs.Meaning.{In}
use Rattle.query_join.specs.Joins.{value_of, head_row}
use Rattle.case_verdicts.specs.Sheets.{top}
use Rattle.case_verdicts.specs.Tableau.{State}
use Rattle.tableau_plan.specs.Plan.{block_numbers, block_size, slot_value, tableau_at, tableau_facts, tableau_size}
use Rattle.tableau_plan.proofs.Tableau.{tableau_length, tableau_relation, tableau_term}
use Rattle.tableau_parts.specs.Views.{GivenAt}
use Rattle.tableau_parts.proofs.Laws.{block_at}
use Rattle.search_slots.specs.Slots.{SetWithin}
use Rattle.search_links.specs.Links.{Linked, place_root, value_under}
use Rattle.search_links.specs.Steps.{RootValue, RootValues}
use Rattle.search_links.proofs.Words.{place-root}
use Rattle.search_reasons.specs.Reasons.{Obeys, Place, WayMarked, AgreesBy}
use Rattle.search_reasons.proofs.Laws.{obeys-less}
use Rattle.search_reasons.proofs.Ways.{slot-value, constant-value}
use Rattle.search_witness.specs.Witness.{read_at, witness_place, Reads, ColumnRead, AtomRead, AtomsRead, HeadRead, RowRead, RowShown, AskedShown}

-- ---- places

pub place-variable : (first : List ℕ) (a : ℕ) → a < names → witness_place first a ≡ get_or first a 0
unfolding witness_place
place-variable first a h = rw (lt-ltb a names h)

pub place-constant : (first : List ℕ) (a : ℕ) → names ≤ a → witness_place first a ≡ slot_end + (a - names)
unfolding witness_place
place-constant first a h = rw (le-ltb a names h)

-- a term has the value of its place
term-value : (first : List ℕ) (t : State) (a : ℕ) → slot_value t (witness_place first a) ≡ value_of (read_at first t) a
unfolding value_of
term-value first t a = ⊎_elim
    (λ h. ap (slot_value t) (place-variable first a h) ∙ sym (ap (λ b. cond b (read_at first t a) (a - names)) (lt-ltb a names h)))
    (λ h.
    ap (slot_value t) (place-constant first a h) ∙ constant-value t (slot_end + (a - names)) (omega arith)
    ∙ (let e : slot_end + (a - names) - slot_end ≡ a - names = omega arith in e) ∙ sym (ap (λ b. cond b (read_at first t a) (a - names)) (le-ltb a names h)))
    (less? a names)

-- ---- one atom

-- z is the place of the term in column c of atom j of block b
module _ (p ws first : List ℕ) (b j i c z : ℕ) (old set : List ℕ) (hj : j < most_atoms) (hc : c < 4)
    (place : z ≡ witness_place first (get_or p (blocks_at + b * block_width + j * 5 + 1 + c) 0)) where
  pub column_agreed : (r : Bool) → r ≡ true → AgreesBy r ws (get_or p (i * 5 + 1 + c) 0) z old set → ColumnRead p ws first b j i c old set
  column_agreed false e m = absurd (true≢false (sym e))
  column_agreed true e m = record {
    more = m.more;
    column = λ t o.
        ap (λ k. slot_value t (get_or p k 0)) (let q : i * 5 + (1 + c) ≡ i * 5 + 1 + c = omega arith in q) ∙ m.same t o ∙ ap (slot_value t) place
        ∙ term-value first t (get_or p (blocks_at + b * block_width + j * 5 + 1 + c) 0)
        ∙ ap (value_of (read_at first t)) (sym (block_at p b (j * 5 + 1 + c) (omega arith)
        ∙ ap (λ k. get_or p k 0) (let q : blocks_at + b * block_width + (j * 5 + 1 + c) ≡ blocks_at + b * block_width + j * 5 + 1 + c = omega arith in q)));
  }

-- the first n columns of atom i of the tableau have the values of those of atom j of block b
pub record ColumnsRead (p ws first : List ℕ) (b j i n : ℕ) (old set : List ℕ) : Type 0 where
  pub more : SetWithin old set
  pub columns : (c : ℕ) → c < n → Reads ws first set (tableau_at p i (1 + c)) (get_or (block_numbers p b) (j * 5 + 1 + c) 0)

module _ (p ws first : List ℕ) (b j i : ℕ) where
  pub columns-start : (set : List ℕ) → ColumnsRead p ws first b j i 0 set set
  columns-start set = record { more = λ k e. e; columns = λ c h. absurd (omega arith) }

  pub columns-more : (n : ℕ) {old set next : List ℕ} → ColumnsRead p ws first b j i n old set → ColumnRead p ws first b j i n set next → ColumnsRead p ws first b j i (n + 1) old next
  columns-more n {old} {set} {next} a r = record {
    more = λ k e. r.more k (a.more k e);
    columns = below_more (λ c. Reads ws first next (tableau_at p i (1 + c)) (get_or (block_numbers p b) (j * 5 + 1 + c) 0)) n
        (λ c h t o. a.columns c h t (obeys-less t ws set next r.more o)) r.column;
  }

  pub columns-all : (n : ℕ) {old set : List ℕ} → j < most_atoms → 4 ≤ n → get_or p (i * 5) 0 ≡ get_or p (blocks_at + b * block_width + j * 5) 0
      → ColumnsRead p ws first b j i n old set → AtomRead p ws first b j i old set
  columns-all n hj h e a = record {
    more = a.more;
    relation = ap (λ k. get_or p k 0) (let z : i * 5 + 0 ≡ i * 5 = omega arith in z) ∙ e ∙ sym (block_at p b (j * 5) (omega arith));
    columns = λ c l. a.columns c (omega arith);
  }

-- ---- one atom more

module _ (p ws first : List ℕ) (from b : ℕ) (at : List ℕ) where
  pub atoms-more : (n : ℕ) {old set next : List ℕ} → AtomsRead p ws first from b at n old set → from ≤ get_or at n 0 → get_or at n 0 < tableau_size p
      → AtomRead p ws first b n (get_or at n 0) set next → AtomsRead p ws first from b at (n + 1) old next
  atoms-more n {old} {set} {next} a low few r = record {
    more = λ k e. r.more k (a.more k e);
    inside = below_more (λ j. (from ≤ get_or at j 0) × (get_or at j 0 < tableau_size p)) n a.inside (low, few);
    relation = below_more (λ j. tableau_at p (get_or at j 0) 0 ≡ get_or (block_numbers p b) (j * 5) 0) n a.relation r.relation;
    columns = below_more (λ j. (c : ℕ) → c < 4 → Reads ws first next (tableau_at p (get_or at j 0) (1 + c)) (get_or (block_numbers p b) (j * 5 + 1 + c) 0)) n
        (λ j h c l t o. a.columns j h c l t (obeys-less t ws set next r.more o)) r.columns;
  }

-- ---- the head

module _ (p ws first : List ℕ) (b : ℕ) where
  pub head-marked : (c : ℕ) {old set : List ℕ} → c < 4 → Place (witness_place first (get_or p (blocks_at + b * block_width + block_head + c) 0))
      → WayMarked ws (witness_place first (get_or p (blocks_at + b * block_width + block_head + c) 0)) old set
      → HeadRead p ws first b c old set (place_root top ws (witness_place first (get_or p (blocks_at + b * block_width + block_head + c) 0)))
  head-marked c hc here m = record {
    more = m.more;
    value = λ t o.
        ap (value_of (read_at first t)) (block_at p b (block_head + c) (omega arith)
        ∙ ap (λ k. get_or p k 0) (let e : blocks_at + b * block_width + (block_head + c) ≡ blocks_at + b * block_width + block_head + c = omega arith in e))
        ∙ sym (term-value first t (get_or p (blocks_at + b * block_width + block_head + c) 0)) ∙ m.way t o;
    root = λ linked whole. place-root top ws linked whole (witness_place first (get_or p (blocks_at + b * block_width + block_head + c) 0)) (λ h. omega arith);
  }

  -- four columns, one after the other
  pub row_read : {s0 s1 s2 s3 s4 : List ℕ} {u v w x : ℕ} → HeadRead p ws first b 0 s0 s1 u → HeadRead p ws first b 1 s1 s2 v → HeadRead p ws first b 2 s2 s3 w
      → HeadRead p ws first b 3 s3 s4 x → RowRead p ws first b (u ∷ v ∷ w ∷ x ∷ []) s0 s4
  row_read {s0} {s1} {s2} {s3} {s4} {u} {v} {w} {x} e f g h = record {
    more = λ k m. from1 k (e.more k m);
    value = value;
    size = refl;
    root = root;
  }
    where
      from2 : SetWithin s2 s4
      from2 k m = h.more k (g.more k m)

      from1 : SetWithin s1 s4
      from1 k m = from2 k (f.more k m)

      value : (c : ℕ) → c < 4 → (t : State) → Obeys t ws s4 → value_of (read_at first t) (get_or (block_numbers p b) (block_head + c) 0) ≡ value_under top t (get_or (u ∷ v ∷ w ∷ x ∷ []) c 0)
      value zero l t o = e.value t (obeys-less t ws s1 s4 from1 o)
      value (suc zero) l t o = f.value t (obeys-less t ws s2 s4 from2 o)
      value (suc (suc zero)) l t o = g.value t (obeys-less t ws s3 s4 h.more o)
      value (suc (suc (suc zero))) l t o = h.value t o
      value (suc (suc (suc (suc c)))) l t o = absurd (omega arith)

      root : Linked top ws → length ws ≡ slot_end → (c : ℕ) → c < 4 → RootValue top ws (get_or (u ∷ v ∷ w ∷ x ∷ []) c 0)
      root linked whole zero l = e.root linked whole
      root linked whole (suc zero) l = f.root linked whole
      root linked whole (suc (suc zero)) l = g.root linked whole
      root linked whole (suc (suc (suc zero))) l = h.root linked whole
      root linked whole (suc (suc (suc (suc c)))) l = absurd (omega arith)

-- ---- all of it

four : (row : List ℕ) → length row ≡ 4 → row ≡ get_or row 0 0 ∷ get_or row 1 0 ∷ get_or row 2 0 ∷ get_or row 3 0 ∷ []
four (u ∷ v ∷ w ∷ x ∷ []) e = refl
four [] e = absurd (omega arith)
four (u ∷ []) e = absurd (omega arith)
four (u ∷ v ∷ []) e = absurd (omega arith)
four (u ∷ v ∷ w ∷ []) e = absurd (omega arith)
four (u ∷ v ∷ w ∷ x ∷ y ∷ l) e = absurd (omega arith)

module _ (p ws first : List ℕ) (from b : ℕ) (at : List ℕ) (n : ℕ) {row old mid set : List ℕ} (a : AtomsRead p ws first from b at n old mid) (r : RowRead p ws first b row mid set) where
  pub row-shown : n ≡ min (block_size p b) most_atoms → RowShown p ws from b row old set
  row-shown count = record { more = λ k e. r.more k (a.more k e); size = r.size; given = given; roots = roots }
    where
      given : (t : State) → Obeys t ws set → GivenAt p b (tableau_facts p t from (tableau_size p - from)) (map (value_under top t) row)
      given t o = record {
        val = read_at first t;
        met = λ j l.
            let h = a.inside j (omega arith) in
            let low = h.0 in
            let few = h.1 in
            let m = tableau_length p t from (tableau_size p - from) in
            let k : get_or at j 0 - from < tableau_size p - from = omega arith in
            let e : from + (get_or at j 0 - from) ≡ get_or at j 0 = omega arith in (
              get_or at j 0 - from,
              omega arith,
              record {
                relation = tableau_relation p t from (tableau_size p - from) (get_or at j 0 - from) k ∙ ap (λ i. tableau_at p i 0) e ∙ a.relation j (omega arith);
                columns = λ c q.
                    tableau_term p t from (tableau_size p - from) (get_or at j 0 - from) c k q
                    ∙ ap (λ i. slot_value t (get_or p i 0)) (let z : (from + (get_or at j 0 - from)) * 5 + 1 + c ≡ get_or at j 0 * 5 + (1 + c) = omega arith in z)
                    ∙ a.columns j (omega arith) c q t (obeys-less t ws mid set r.more o);
              },
            );
        gives = (λ i. heads 0 (omega arith) i ∷ heads 1 (omega arith) i ∷ heads 2 (omega arith) i ∷ heads 3 (omega arith) i ∷ []) ∙ ap (map (value_under top t)) (sym (four row r.size));
      }
        where
          heads : (c : ℕ) → c < 4 → value_of (read_at first t) (get_or (block_numbers p b) (block_head + c) 0) ≡ value_under top t (get_or row c 0)
          heads c h = r.value c h t o

      roots : Linked top ws → length ws ≡ slot_end → RootValues top ws row
      roots linked whole v m = go (subst (λ (l : List ℕ). In v l) (four row r.size) m)
        where
          go : In v (get_or row 0 0 ∷ get_or row 1 0 ∷ get_or row 2 0 ∷ get_or row 3 0 ∷ []) → RootValue top ws v
          go (inl e) = subst (RootValue top ws) (sym e) (r.root linked whole 0 (omega arith))
          go (inr (inl e)) = subst (RootValue top ws) (sym e) (r.root linked whole 1 (omega arith))
          go (inr (inr (inl e))) = subst (RootValue top ws) (sym e) (r.root linked whole 2 (omega arith))
          go (inr (inr (inr (inr x4)))) = elim x4 [ ]
          go (inr (inr (inr (inl e)))) = subst (RootValue top ws) (sym e) (r.root linked whole 3 (omega arith))

-- ---- the question's head

-- where the places are those of the first copy, a term is read under its valuation
own_read : (first : List ℕ) (t : State) → ((x : ℕ) → x < names → get_or first x 0 ≡ x) → (a : ℕ) → value_of (read_at first t) a ≡ value_of (λ z. t (0 * names + z)) a
unfolding value_of
own_read first t own a = ⊎_elim
    (λ h. rw (lt-ltb a names h) (ap (slot_value t) (own a h) ∙ slot-value t a (omega arith) ∙ ap t (let e : a ≡ 0 * names + a = omega arith in e)))
    (λ h. rw (le-ltb a names h) refl)
    (less? a names)

pub asked-shown : (p ws first : List ℕ) {row old set : List ℕ} → ((x : ℕ) → x < names → get_or first x 0 ≡ x) → RowRead p ws first question_block row old set → AskedShown p ws row old set
asked-shown p ws first {row} {old} {set} own r = record { more = r.more; size = r.size; row_is = row_is }
  where
    row_is : (t : State) → Obeys t ws set → head_row (λ z. t (0 * names + z)) (block_numbers p question_block) ≡ map (value_under top t) row
    row_is t o = (λ i. heads 0 (omega arith) i ∷ heads 1 (omega arith) i ∷ heads 2 (omega arith) i ∷ heads 3 (omega arith) i ∷ []) ∙ ap (map (value_under top t)) (sym (four row r.size))
      where
        heads : (c : ℕ) → c < 4 → value_of (λ z. t (0 * names + z)) (get_or (block_numbers p question_block) (block_head + c) 0) ≡ value_under top t (get_or row c 0)
        heads c h = sym (own_read first t own (get_or (block_numbers p question_block) (block_head + c) 0)) ∙ r.value c h t o
