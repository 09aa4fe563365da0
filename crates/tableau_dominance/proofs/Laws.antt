-- Rows with a value in another's place, over the lists of a plan.
use mathlib.Core.Path.{◌≡◌, refl, sym, ap, ◌∙◌, subst}
use mathlib.Core.List.{List}
use Prim.Native.Nat.{ℕ, ◌+◌, ◌-◌, ◌*◌, ◌/◌, ◌%◌, ◌<◌, ◌≤◌, min}
use native.Mathlib.Omega.{arith}
use native.Mathlib.Decide.{ℕ_discrete, dec_lt}
use lib.ListN.{length, get_or, set, length-set}
use lib.Seq.{get_or-set_same, get_or-set_other, ext_get_or}
use Rattle.sheet_format.specs.Limits.{most_atoms}
use Rattle.query_layout.specs.Layout.{block_head}
use Rattle.list_laws.specs.Order.{◌⊏◌, SameBefore}
use Rattle.list_laws.proofs.Order.{order}
use Rattle.query_join.specs.Joins.{value_of, Given}
use Rattle.query_answers.proofs.Rows.{given-column, given-length}
use Rattle.tableau_layout.specs.Layout.{question_block, list_block}
use Rattle.tableau_plan.specs.Plan.{block_numbers, block_size}
use Rattle.tableau_parts.specs.Views.{GivenAt, GivenToList}
use Rattle.tableau_dominance.specs.Dominated.{Dominated, TermAmong, DominatedTo, GivenBelow, GivenUpTo}

-- a value put in and the old one put back
pub put_back : (w : List ℕ) (k b x : ℕ) → k < length w → get_or w k 0 ≡ x → set (set w k b) k x ≡ w
put_back w k b x lt e = ext_get_or 0 (set (set w k b) k x) w (length-set (set w k b) k x ∙ length-set w k b) (λ q _. side q (ℕ_discrete q k))
  where
    side : (q : ℕ) → Dec (q ≡ k) → get_or (set (set w k b) k x) q 0 ≡ get_or w q 0
    side q (yes s) = ap (λ z. get_or (set (set w k b) k x) z 0) s ∙ get_or-set_same (set w k b) k x 0 (let z = length-set w k b in omega arith) ∙ sym (ap (λ z. get_or w z 0) s ∙ e)
    side q (no f) = get_or-set_other (set w k b) k q x 0 f ∙ get_or-set_other w k q b 0 f

-- a row with a dominated value is given to a list where the rows below it are
pub dominated_given : (p facts row w : List ℕ) (k b x : ℕ) → k < 4 → length row ≡ 4 → b < get_or row k 0 → get_or w k 0 ≡ x → Dominated p facts k x b → GivenBelow p facts row
    → GivenAt p question_block facts w → SameBefore k row w → GivenToList p facts w
dominated_given p facts row w k b x in-k long lt e d below g same =
    let l = below.all (set w k b) (d.asked.gives w g e) lower in
    (l.0, l.1, subst (GivenAt p (list_block l.0) facts) (put_back w k b x inside e) ((d.listed l.0 l.1).gives (set w k b) l.2 here))
  where
    inside : k < length w
    inside = let z = given-length (block_numbers p question_block) (min (block_size p question_block) most_atoms) facts w g in omega arith

    here : get_or (set w k b) k 0 ≡ b
    here = get_or-set_same w k b 0 inside

    lower : set w k b ⊏ row
    lower =
        order k (set w k b) row (let z = length-set w k b in let i = inside in omega arith) (omega arith)
        (record { same = λ q q-lt. get_or-set_other w k q b 0 (λ s. absurd (omega arith)) ∙ sym (same.same q q-lt) })
        (let z = here in omega arith)

-- the value of a row is one that a fact has where the head's variable stands
pub value-fact : (blk : List ℕ) (n : ℕ) (facts w : List ℕ) (k at : ℕ) (g : Given blk n facts w) → k < 4 → TermAmong blk n (get_or blk (block_head + k) 0) at
    → (i : ℕ) × (i < length facts / 5) × (get_or facts (i * 5) 0 ≡ get_or blk (at - at % 5) 0) × (get_or facts (i * 5 + at % 5) 0 ≡ get_or w k 0)
value-fact blk n facts w k at g in-k t =
    let h = t.inside in
    let h' = t.place in
    let m = g.met (at / 5) (omega arith) in
    let e : at / 5 * 5 ≡ at - at % 5 = omega arith in
    let c : m.0 * 5 + 1 + (at % 5 - 1) ≡ m.0 * 5 + at % 5 = omega arith in
    let d : at / 5 * 5 + 1 + (at % 5 - 1) ≡ at = omega arith in (
      m.0,
      m.1,
      m.2.relation ∙ ap (λ z. get_or blk z 0) e,
      ap (λ z. get_or facts z 0) (sym c) ∙ m.2.columns (at % 5 - 1) (omega arith) ∙ ap (λ z. value_of g.val (get_or blk z 0)) d ∙ ap (value_of g.val) t.term
          ∙ given-column blk n facts w g k in-k,
    )

-- a value is dominated that is the row's, or that a fact has
pub given-to-end : (p facts row blk : List ℕ) (n k at b end : ℕ) → blk ≡ block_numbers p question_block → n ≡ min (block_size p question_block) most_atoms → k < 4 → length row ≡ 4
    → b < get_or row k 0 → TermAmong blk n (get_or blk (block_head + k) 0) at → Dominated p facts k (get_or row k 0) b
    → DominatedTo p facts k (get_or blk (at - at % 5) 0) (at % 5) (get_or row k 0) b end → GivenUpTo p facts row k end
given-to-end p facts row blk n k at b end is-blk is-n in-k long lt t first rest = record { each = each }
  where
    copied : (w : List ℕ) → GivenAt p question_block facts w → Given blk n facts w
    copied w g = subst (λ l. Given l n facts w) (sym is-blk) (subst (λ m. Given (block_numbers p question_block) m facts w) (sym is-n) g)

    each : GivenBelow p facts row → (w : List ℕ) → GivenAt p question_block facts w → SameBefore k row w → get_or row k 0 ≤ get_or w k 0 → get_or w k 0 < end → GivenToList p facts w
    each below w g same from to =
        dominated_given p facts row w k b (get_or w k 0) in-k long lt refl (side (dec_lt (get_or row k 0) (get_or w k 0))) below g same
      where
        side : Dec (get_or row k 0 < get_or w k 0) → Dominated p facts k (get_or w k 0) b
        side (no h) = subst (λ x. Dominated p facts k x b) (let e : get_or row k 0 ≡ get_or w k 0 = omega arith in e) first
        side (yes h) =
            let f = value-fact blk n facts w k at (copied w g) in-k t in
            let e = f.3 in
            subst (λ x. Dominated p facts k x b) e (rest.each f.0 f.1 f.2 (omega arith) (omega arith))
