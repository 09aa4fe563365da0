-- Where a walk over the question's rows goes on, over lists.
use mathlib.Core.Path.{◌≡◌, refl, sym, ◌∙◌, subst}
use mathlib.Core.Bool.{Bool}
use mathlib.Core.List.{List}
use mathlib.Core.Logic.{◌⊎◌, inl, inr, ⊎_elim}
use Prim.Native.Nat.{ℕ, ◌-◌, ◌<◌, ◌≤◌, min}
use native.Mathlib.Omega.{arith}
use native.Mathlib.Decide.{dec_lt}
use lib.ListN.{length, get_or, set, length-set}
use lib.Seq.{get_or-set_same, get_or-set_other}
use Rattle.sheet_format.specs.Limits.{most_atoms}
use Rattle.tableau_layout.specs.Layout.{question_block}
use Rattle.list_laws.specs.Order.{◌⊏◌, SameBefore}
use Rattle.list_laws.proofs.Order.{FirstDifference, differ, order, agree-sym, agree_trans, agree_less, not-below}
use Rattle.query_answers.proofs.Rows.{given-length}
use Rattle.tableau_plan.specs.Plan.{block_numbers, block_size}
use Rattle.tableau_parts.specs.Views.{GivenAt, GivenToList}
use Rattle.tableau_parts.specs.Walks.{Onward}
use Rattle.tableau_parts.proofs.Laws.{WalkAt}
use Rattle.tableau_dominance.specs.Dominated.{GivenBelow, GivenUpTo}

-- what a walk has passed
pub walk-below : (p facts : List ℕ) (some : Bool) (u : List ℕ) → WalkAt (GivenToList p facts) p 0 facts some u → GivenBelow p facts u
walk-below p facts some u k = record { all = λ w g lt. ⊎_elim (λ l. l) (λ x. absurd (not-below w u x.1 lt)) (k.passed w g) }

-- the rows that begin as a row does before column k, and have there a value below the end, are given: a walk goes on from the last of them
pub onward-end : (p facts row far : List ℕ) (k end : ℕ) → k < 4 → length row ≡ 4 → length far ≡ 4 → SameBefore k row far → get_or far k 0 < end → GivenUpTo p facts row k end → get_or row k 0 < end
    → GivenBelow p facts row → Onward p facts row far
onward-end p facts row far k end in-k long long' a last upto lt below = record { passed = λ w g. ⊎_elim (λ e. inl (same w g e)) (λ x. side w g (differ row w x)) }
  where
    same : (w : List ℕ) → GivenAt p question_block facts w → w ≡ row → GivenToList p facts w
    same w g e = subst (λ x. GivenAt p question_block facts x → GivenToList p facts x) (sym e) (λ h. upto.each below row h (record { same = λ q _. refl }) (omega arith) lt) g

    side : (w : List ℕ) → GivenAt p question_block facts w → FirstDifference row w → GivenToList p facts w ⊎ (far ⊏ w)
    side w g d = at (dec_lt d.at k)
      where
        size : length w ≡ 4
        size = given-length (block_numbers p question_block) (min (block_size p question_block) most_atoms) facts w g

        begins : k ≤ d.at → SameBefore k row w
        begins le = agree_less k le d.agree

        from : k ≤ d.at → Dec (k < d.at) → get_or row k 0 ≤ get_or w k 0
        from le (yes h) = let e = d.agree.same k h in omega arith
        from le (no h) = let l = subst (λ x. get_or row x 0 < get_or w x 0) (let e : d.at ≡ k = omega arith in e) d.less in omega arith

        here : k ≤ d.at → Dec (get_or w k 0 < end) → GivenToList p facts w ⊎ (far ⊏ w)
        here le (yes h) = inl (upto.each below w g (begins le) (from le (dec_lt k d.at)) h)
        here le (no h) =
            inr (order k far w (omega arith) (let z = size in omega arith) (agree_trans (agree-sym a) (begins le)) (omega arith))

        at : Dec (d.at < k) → GivenToList p facts w ⊎ (far ⊏ w)
        at (no ge) = here (omega arith) (dec_lt (get_or w k 0) end)
        at (yes h) =
            let z = size in
            let e = a.same d.at h in
            let l = d.less in
            inr (order d.at far w (omega arith) (omega arith) (agree_trans (agree-sym (agree_less d.at (omega arith) a)) d.agree) (omega arith))

-- the last of them: it has the value before the end, and the last ones after it
pub onward-to : (p facts row far : List ℕ) (k end : ℕ) → k < 4 → length row ≡ 4 → length far ≡ 4 → SameBefore k row far → get_or row k 0 < end → GivenUpTo p facts row k end → GivenBelow p facts row
    → Onward p facts row (set far k (end - 1))
onward-to p facts row far k end in-k long long' a lt upto below =
    onward-end p facts row (set far k (end - 1)) k end in-k long (length-set far k (end - 1) ∙ long')
    (record { same = λ q q-lt. a.same q q-lt ∙ sym (get_or-set_other far k q (end - 1) 0 (λ e. absurd (omega arith))) })
    (let e = get_or-set_same far k (end - 1) 0 (omega arith) in omega arith) upto lt below
