-- Two listed rows are alike: what refutes the one as what a stray row becomes refutes the other.
use mathlib.Core.Path.{◌≡◌, sym, ap, ◌∙◌, subst}
use mathlib.Core.Bool.{true}
use mathlib.Core.List.{List}
use mathlib.Core.Logic.{◌⊎◌, inl, inr, ⊎_elim}
use Prim.Native.Nat.{ℕ, zero, suc, ◌+◌, ◌-◌, ◌*◌, ◌/◌, ◌%◌, ◌<◌}
use native.Mathlib.Omega.{arith}
use lib.ListN.{length, get_or, get_or-eq_default}
use Rattle.query_layout.specs.Layout.{names}
use Rattle.tableau_layout.specs.Layout.{most_copies, slot_end}
use Rattle.list_laws.proofs.Lists.{inside}
use Rattle.list_laws.proofs.Order.{less?}
use Rattle.case_verdicts.specs.Verdict.{Sheet}
use Rattle.case_verdicts.specs.Sheets.{top}
use Rattle.case_verdicts.specs.Accepted.{width}
use Rattle.case_verdicts.specs.Tableau.{State, Good}
use Rattle.case_verdicts.specs.Search.{equations, Met}
use Rattle.case_verdicts.specs.Words.{state_of}
use Rattle.tableau_plan.specs.Plan.{row_values}
use Rattle.search_slots.specs.Slots.{in_set}
use Rattle.search_links.specs.Links.{value_under}
use Rattle.search_links.specs.Steps.{RootValue, RootValues}
use Rattle.search_links.proofs.Under.{under-constant, under-own}
use Rattle.search_reasons.specs.Reasons.{Obeys, AlternativeFails}
use Rattle.search_task.specs.Task.{ReadyPlan, sheet_by}
use Rattle.search_task.specs.declared.Goal.{Goal}
use Rattle.search_task.proofs.Columns.{met_at, at-met, at_in, row-at}
use Rattle.search_task.proofs.ReadyLaws.{row-constants, ready_task}
use Rattle.search_symmetry.specs.Symmetry.{exchanged, copy_becomes, Alike}
use Rattle.search_symmetry.proofs.Symmetry.{Symmetric, good-turned}
use Rattle.search_symmetry.proofs.Turned.{symmetric, turn_small}

module _ (p : List ℕ) (x : Sheet) (r : ReadyPlan p x) (goal : Goal) (ws set u : List ℕ) (size : length ws ≡ slot_end) (roots : RootValues top ws u)
    (one other : ℕ) (m : Alike p ws set u one other) where
  abbrev turn : ℕ → ℕ
  turn = exchanged (row_values p one) (row_values p other)

  abbrev to : ℕ → ℕ
  to = copy_becomes m.to

  symmetry : Symmetric (sheet_by goal x) turn to
  symmetry = symmetric p x r one other m.to m.exchanges m.fixed m.rows goal

  -- a listed row has constants, and they become constants
  one-low : (c : ℕ) → c < 4 → get_or (row_values p one) c 0 < top
  one-low c lt = row-constants p x r one m.few.0 (get_or (row_values p one) c 0) (at_in (row_values p one) c lt)

  other-low : (c : ℕ) → c < 4 → get_or (row_values p other) c 0 < top
  other-low c lt = row-constants p x r other m.few.1 (get_or (row_values p other) c 0) (at_in (row_values p other) c lt)

  low : (v : ℕ) → v < top → turn v < top
  low = turn_small p x r one other m.to m.exchanges m.fixed m.rows m.few.0 m.few.1

  -- the slot that a slot becomes
  abbrev slot : ℕ → ℕ
  slot n = to (n / names) * names + n % names

  copy-few : (k : ℕ) → k < most_copies → to k < most_copies
  copy-few zero lt = omega arith
  copy-few (suc i) lt = let (a, b) = m.rows.twice i (omega arith) in omega arith

  slot-few : (n : ℕ) → n < slot_end → slot n < slot_end
  slot-few n lt = let f = copy-few (n / names) (omega arith) in omega arith

  word_at : (n : ℕ) → n < slot_end → state_of top ws n ≡ get_or ws n 0
  word_at n lt = inside ws n (top + n) 0 (omega arith)

  -- a state with values and copies exchanged
  abbrev turned : State → State
  turned t n = turn (t (slot n))

  turns : (t : State) (k z : ℕ) → z < width → turned t (k * width + z) ≡ turn (t (to k * width + z))
  unfolding width
  turns t k z lt =
      let d : (k * names + z) / names ≡ k = omega arith in
      let e : (k * names + z) % names ≡ z = omega arith in
      ap (λ q. turn (t (to q * names + (k * names + z) % names))) d ∙ ap (λ q. turn (t (to k * names + q))) e

  good : (t : State) → Good (sheet_by goal x) t → Good (sheet_by goal x) (turned t)
  good t = good-turned (sheet_by goal x) (ready_task p x r goal).accepted turn to symmetry t (turned t) (turns t)

  -- it obeys the words of the set's slots where the state does
  slot-obeys : (t : State) → Obeys t ws set → (n : ℕ) → n < slot_end → in_set set n ≡ true → value_under top (turned t) (state_of top ws n) ≡ turned t n
  slot-obeys t o n lt e =
      let q : n / names * names + n % names ≡ n = omega arith in
      go (subst (λ i. (get_or ws i 0 ≡ top + i) ⊎ ((get_or ws i 0 < top) × (in_set set (slot n) ≡ true) × (get_or ws (slot n) 0 ≡ turn (get_or ws i 0)))) q
      (m.slots.each (n / names) (n % names) (omega arith) (omega arith) (subst (λ i. in_set set i ≡ true) (sym q) e)))
    where
      go : (get_or ws n 0 ≡ top + n) ⊎ ((get_or ws n 0 < top) × (in_set set (slot n) ≡ true) × (get_or ws (slot n) 0 ≡ turn (get_or ws n 0)))
          → value_under top (turned t) (state_of top ws n) ≡ turned t n
      go (inl own) = ap (value_under top (turned t)) (word_at n lt ∙ own) ∙ under-own top (turned t) n
      go (inr (small, has, same)) =
          ap (value_under top (turned t)) (word_at n lt) ∙ under-constant top (turned t) (get_or ws n 0) small ∙ sym (symmetry.twice (get_or ws n 0))
          ∙ ap turn
          (sym (under-constant top t (turn (get_or ws n 0)) (low (get_or ws n 0) small))
          ∙ ap (value_under top t) (sym (word_at (slot n) (slot-few n lt) ∙ same))
          ∙ o (slot n) has)

  obeys : (t : State) → Obeys t ws set → Obeys (turned t) ws set
  obeys t o n e = ⊎_elim (λ lt. slot-obeys t o n lt e)
      (λ le. ap (value_under top (turned t)) (get_or-eq_default ws (top + n) (omega arith)) ∙ under-own top (turned t) n) (less? n slot_end)

  -- and it makes the stray row `one` where the state makes it `other`
  column : (t : State) → Met (value_under top t) (equations u (row_values p other)) → (c : ℕ) → c < length u → c < 4
      → value_under top (turned t) (get_or u c 0) ≡ value_under top (turned t) (get_or (row_values p one) c 0)
  column t met c lu lc = go (roots (get_or u c 0) (at_in u c lu))
    where
      go : RootValue top ws (get_or u c 0) → value_under top (turned t) (get_or u c 0) ≡ value_under top (turned t) (get_or (row_values p one) c 0)
      go (inl lt) = ap (value_under top (turned t)) (m.stray.constants c lc lt ∙ sym (row-at p one c lc))
      go (inr (le, lt, e)) =
          let n : ℕ = get_or u c 0 - top in
          let made : get_or u c 0 ≡ top + n = omega arith in
          let q : n / names * names + n % names ≡ n = omega arith in
          let stays : to (n / names) ≡ n / names = m.stray.slots c (n / names) (n % names) lc (omega arith) (omega arith) (made ∙ ap (λ i. top + i) (sym q)) in
          let there : slot n ≡ n = ap (λ k. k * names + n % names) stays ∙ q in
          ap (value_under top (turned t)) made ∙ under-own top (turned t) n ∙ ap (λ i. turn (t i)) there
          ∙ ap turn
          (sym (under-own top t n) ∙ ap (value_under top t) (sym made) ∙ met_at (value_under top t) u (row_values p other) met c lu lc
          ∙ under-constant top t (get_or (row_values p other) c 0) (other-low c lc)
          ∙ row-at p other c lc)
          ∙ m.exchanges.back c lc
          ∙ sym (row-at p one c lc)
          ∙ sym (under-constant top (turned t) (get_or (row_values p one) c 0) (one-low c lc))

  pub alike-fails : AlternativeFails (Good (sheet_by goal x)) ws set u (row_values p one) → AlternativeFails (Good (sheet_by goal x)) ws set u (row_values p other)
  alike-fails fails = record {
    none = λ t g o met. fails.none (turned t) (good t g) (obeys t o) (at-met (value_under top (turned t)) u (row_values p one) (λ c lu lc. column t met c lu lc));
  }
