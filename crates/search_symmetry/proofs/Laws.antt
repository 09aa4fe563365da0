-- What each step of a check adds to what is known of the values of two rows.
use mathlib.Core.Path.{◌≡◌, sym, ap, ◌∙◌, subst}
use mathlib.Core.Bool.{Bool, true, cond}
use mathlib.Core.List.{List, ◌∷◌}
use mathlib.Core.Logic.{◌⊎◌, inl, inr, ⊎_elim}
use Prim.Native.Nat.{ℕ, suc, ◌+◌, ◌-◌, ◌*◌, ◌/◌, ◌%◌, ◌<◌, ◌≤◌}
use native.Mathlib.Omega.{arith}
use native.Mathlib.Numerals.{add-one}
use borrow.Author.Tests.{eq-eqb, ne_eqb}
use borrow.Author.Count.{below_more}
use lib.Dec.{eqb}
use lib.ListN.{length, get_or, drop, set}
use lib.Seq.{drop-cons, drop-length}
use Rattle.tableau_layout.specs.Layout.{blocks_at, sizes_at, slot_end}
use Rattle.query_layout.specs.Layout.{block_head, block_width, names}
use Rattle.case_verdicts.specs.Sheets.{top}
use Rattle.tableau_plan.specs.Plan.{row_at, row_values, row_count, view_count, block_size}
use Rattle.search_slots.specs.Slots.{in_set}
use Rattle.search_task.proofs.Columns.{row-at}
use Rattle.search_symmetry.specs.Symmetry.{exchanged, copy_becomes, Alike}
use Rattle.search_symmetry.specs.Steps.{SameFor, Swapped, Used, SheetTurned, TwoListed, UnmovedValue, Unmoved, slot_to, SlotsTurned}

-- ---- a value where those of two rows are exchanged

module _ (a b : List ℕ) (v c : ℕ) (long : length a ≡ 4) (wide : length b ≡ 4) (lt : c < 4) where
  -- in the columns from c on
  first : exchanged (drop c a) (drop c b) v ≡ cond (eqb v (get_or a c 0)) (get_or b c 0) (cond (eqb v (get_or b c 0)) (get_or a c 0) (exchanged (drop (suc c) a) (drop (suc c) b) v))
  unfolding exchanged
  first =
      ap (λ (l : List ℕ). exchanged l (drop c b) v) (drop-cons a c 0 (omega arith))
      ∙ ap (λ (l : List ℕ). exchanged (get_or a c 0 ∷ drop (suc c) a) l v) (drop-cons b c 0 (omega arith))

  pub turn-there : v ≡ get_or a c 0 → exchanged (drop c a) (drop c b) v ≡ get_or b c 0
  turn-there e = first ∙ ap (λ (t : Bool). cond t (get_or b c 0) (cond (eqb v (get_or b c 0)) (get_or a c 0) (exchanged (drop (suc c) a) (drop (suc c) b) v))) (eq-eqb v (get_or a c 0) e)

  miss : (v ≡ get_or a c 0 → ⊥) → exchanged (drop c a) (drop c b) v ≡ cond (eqb v (get_or b c 0)) (get_or a c 0) (exchanged (drop (suc c) a) (drop (suc c) b) v)
  miss n = first ∙ ap (λ (t : Bool). cond t (get_or b c 0) (cond (eqb v (get_or b c 0)) (get_or a c 0) (exchanged (drop (suc c) a) (drop (suc c) b) v))) (ne_eqb v (get_or a c 0) n)

  pub turn-back : (v ≡ get_or a c 0 → ⊥) → v ≡ get_or b c 0 → exchanged (drop c a) (drop c b) v ≡ get_or a c 0
  turn-back n e = miss n ∙ ap (λ (t : Bool). cond t (get_or a c 0) (exchanged (drop (suc c) a) (drop (suc c) b) v)) (eq-eqb v (get_or b c 0) e)

  pub turn-later : (v ≡ get_or a c 0 → ⊥) → (v ≡ get_or b c 0 → ⊥) → exchanged (drop c a) (drop c b) v ≡ exchanged (drop (c + 1) a) (drop (c + 1) b) v
  turn-later n m =
      miss n
      ∙ ap (λ (t : Bool). cond t (get_or a c 0) (exchanged (drop (suc c) a) (drop (suc c) b) v)) (ne_eqb v (get_or b c 0) m)
      ∙ ap (λ (k : ℕ). exchanged (drop k a) (drop k b) v) (sym (add-one c))

pub turn-none : (a b : List ℕ) (v c : ℕ) → length a ≡ 4 → c ≡ 4 → exchanged (drop c a) (drop c b) v ≡ v
unfolding exchanged
turn-none a b v c long e =
    ap (λ (l : List ℕ). exchanged l (drop c b) v) (ap (λ (k : ℕ). drop k a) (e ∙ sym long) ∙ drop-length a)

-- ---- the copies of a stray row's made-up values

pub unmoved_more : (to u : List ℕ) (c : ℕ) → Unmoved to u c → UnmovedValue to (get_or u c 0) → Unmoved to u (c + 1)
unmoved_more to u c s h = record { each = below_more (λ (d : ℕ). UnmovedValue to (get_or u d 0)) c s.each h }

-- ---- all of it

exchanged-at : (p : List ℕ) (a b : List ℕ) (i j c : ℕ) → c < 4 → exchanged a b (get_or (row_values p i) c 0) ≡ get_or (row_values p j) c 0 → exchanged a b (row_at p i (1 + c)) ≡ row_at p j (1 + c)
exchanged-at p a b i j c lt e = ap (exchanged a b) (sym (row-at p i c lt)) ∙ e ∙ row-at p j c lt

-- what is found of rows whose values are a and b
abbrev AlikeFound : List ℕ → List ℕ → List ℕ → List ℕ → ℕ → ℕ → List ℕ → List ℕ → List ℕ → Type 0
AlikeFound p ws set u one other to a b =
    SameFor u a 4
    → Swapped a b 4
    → SheetTurned p a b (row_count p) (view_count p) to
    → SlotsTurned ws set a b to slot_end
    → Alike p ws set u one other

used-at : (p : List ℕ) (b k : ℕ) → k < block_width → (k / 5 < block_size p b) ⊎ (block_head ≤ k) → Used p (b * block_width + k)
used-at p b k lt used =
    let e : (b * block_width + k) % block_width ≡ k = omega arith in
    let f : (b * block_width + k) / block_width ≡ b = omega arith in
    ⊎_elim (λ h. inl (subst (λ (n : ℕ). (b * block_width + k) % block_width / 5 < get_or p (sizes_at + n) 0) (sym f) (subst (λ (n : ℕ). n / 5 < block_size p b) (sym e) h))) (λ h. inr (omega arith)) used

all_mirrored : (p ws set u : List ℕ) (one other : ℕ) (to : List ℕ)
    → TwoListed p one other
    → Unmoved to u 4
    → AlikeFound p ws set u one other to (row_values p one) (row_values p other)
all_mirrored p ws set u one other to few un ag sw st ct = record {
  few = (few.one_inside, few.other_inside);
  to = to;
  exchanges = record {
    there = λ c lt. exchanged-at p (row_values p one) (row_values p other) one other c lt (sw.there c lt);
    back = λ c lt. exchanged-at p (row_values p one) (row_values p other) other one c lt (sw.back c lt);
  };
  fixed = record {
    each = λ b k lb lk used.
        subst (λ (n : ℕ). names ≤ get_or p n 0 → exchanged (row_values p one) (row_values p other) (get_or p n 0 - names) ≡ get_or p n 0 - names)
        (let e : blocks_at + (b * block_width + k) ≡ blocks_at + b * block_width + k = omega arith in e)
        (st.constants.each (b * block_width + k) (omega arith) (used-at p b k lk used));
  };
  rows = record {
    row = λ i lt. let go = st.rows_go.each i (let h = few.few_rows in omega arith) lt in record { inside = go.inside; view = go.becomes.view; values = go.becomes.values };
    twice = st.rows_back.each;
  };
  slots = record {
    each = λ k x lk lx e.
        let n : ℕ = k * names + x in
        let c : n / names ≡ k = omega arith in
        let d : n % names ≡ x = omega arith in
        let there : slot_to to n ≡ copy_becomes to k * names + x = ap (λ (i : ℕ). copy_becomes to i * names + n % names) c ∙ ap (λ (i : ℕ). copy_becomes to k * names + i) d in
        subst (λ (m : ℕ). (get_or ws n 0 ≡ top + n) ⊎ ((get_or ws n 0 < top) × (in_set set m ≡ true) × (get_or ws m 0 ≡ exchanged (row_values p one) (row_values p other) (get_or ws n 0)))) there (ct.each n (omega arith) e);
  };
  stray = record { constants = λ c lt h. ag.each c lt h ∙ row-at p one c lt; slots = λ c k x lt. un.each c lt k x };
}

pub all_found : (p ws set u : List ℕ) (one other : ℕ) (to a b : List ℕ)
    → a ≡ row_values p one
    → b ≡ row_values p other
    → TwoListed p one other
    → Unmoved to u 4
    → AlikeFound p ws set u one other to a b
all_found p ws set u one other to a b ea eb few un =
    subst (λ (l : List ℕ). AlikeFound p ws set u one other to l b) (sym ea)
    (subst (λ (l : List ℕ). AlikeFound p ws set u one other to (row_values p one) l) (sym eb) (all_mirrored p ws set u one other to few un))
