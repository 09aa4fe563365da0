-- The facts of the tableau, number by number.
use mathlib.Core.Path.{◌≡◌, refl, sym, ap, ◌∙◌}
use mathlib.Core.Bool.{cond}
use mathlib.Core.List.{List}
use Prim.Native.Nat.{ℕ, zero, suc, ◌+◌, ◌*◌, ◌-◌, ◌%◌, ◌<◌, ◌≤◌}
use native.Mathlib.Omega.{arith}
use lib.ListN.{length, get_or, take}
use lib.Seq.{length-take-le, get_or-take, ext_get_or}
use borrow.Author.Tests.{eq-eqb, ne_eqb, lt-ltb, le-ltb}
use Rattle.tableau_layout.specs.Layout.{slot_end}
use Rattle.list_laws.proofs.Lists.{inside}
use Rattle.case_verdicts.specs.Tableau.{State}
use Rattle.case_verdicts.specs.Sheets.{top}
use Rattle.case_verdicts.specs.Words.{state_of}
use Rattle.tableau_plan.specs.Plan.{slot_value, tableau_facts}
use Rattle.search_state.specs.Parts.{number_under}

module _ (p : List ℕ) (s : State) where
  pub relation-number : (x : ℕ) → x % 5 ≡ 0 → get_or p x 0 ≡ number_under p s x
  relation-number x h = sym (ap (λ b. cond b (get_or p x 0) (slot_value s (get_or p x 0))) (eq-eqb (x % 5) 0 h))

  pub value-number : (x : ℕ) → (x % 5 ≡ 0 → ⊥) → slot_value s (get_or p x 0) ≡ number_under p s x
  value-number x h = sym (ap (λ b. cond b (get_or p x 0) (slot_value s (get_or p x 0))) (ne_eqb (x % 5) 0 h))

  facts-length : (i n : ℕ) → length (tableau_facts p s i n) ≡ n * 5
  unfolding tableau_facts
  facts-length i zero = refl
  facts-length i (suc n) = let e = facts-length (suc i) n in omega arith

  facts_at : (i n j : ℕ) → j < n * 5 → get_or (tableau_facts p s i n) j 0 ≡ number_under p s (i * 5 + j)
  unfolding tableau_facts
  facts_at i zero j h = absurd (omega arith)
  facts_at i (suc n) zero h = relation-number (i * 5 + 0) (omega arith)
  facts_at i (suc n) (suc zero) h = value-number (i * 5 + 1) (λ e. omega arith)
  facts_at i (suc n) (suc (suc zero)) h = value-number (i * 5 + 2) (λ e. omega arith)
  facts_at i (suc n) (suc (suc (suc zero))) h = value-number (i * 5 + 3) (λ e. omega arith)
  facts_at i (suc n) (suc (suc (suc (suc zero)))) h = value-number (i * 5 + 4) (λ e. omega arith)
  facts_at i (suc n) (suc (suc (suc (suc (suc j))))) h =
      facts_at (suc i) n j (omega arith) ∙ ap (number_under p s) (let e : suc i * 5 + j ≡ i * 5 + suc (suc (suc (suc (suc j)))) = omega arith in e)

  pub facts-taken : (out : List ℕ) (i n : ℕ) → n * 5 ≤ length out → ((x : ℕ) → x < n * 5 → get_or out x 0 ≡ number_under p s (i * 5 + x))
      → take (n * 5) out ≡ tableau_facts p s i n
  facts-taken out i n room each =
      let l = length-take-le (n * 5) out room in
      ext_get_or 0 (take (n * 5) out) (tableau_facts p s i n) (l ∙ sym (facts-length i n))
      (λ x h. let g : x < n * 5 = omega arith in get_or-take (n * 5) out x 0 g ∙ each x g ∙ sym (facts_at i n x g))

-- ---- the value of a term

pub slot-value : (ws : List ℕ) (t : ℕ) → t < slot_end → slot_end ≤ length ws → get_or ws t 0 ≡ slot_value (state_of top ws) t
unfolding slot_value
slot-value ws t h g = inside ws t 0 (top + t) (omega arith) ∙ sym (ap (λ b. cond b (get_or ws t (top + t)) (t - slot_end)) (lt-ltb t slot_end h))

pub constant-value : (ws : List ℕ) (t : ℕ) → slot_end ≤ t → t - slot_end ≡ slot_value (state_of top ws) t
unfolding slot_value
constant-value ws t h = sym (ap (λ b. cond b (get_or ws t (top + t)) (t - slot_end)) (le-ltb t slot_end h))
