-- Ends that do not fall back part the bytes.
use mathlib.Core.Path.{◌≡◌, refl, sym, ap, subst}
use mathlib.Core.Bool.{Bool, true, false, cond, not, ◌||◌, true≢false}
use mathlib.Core.List.{List, [], ◌∷◌}
use Prim.Native.Nat.{ℕ, zero, suc, ◌+◌, ◌*◌, ◌-◌, ◌/◌, ◌<◌, ◌≤◌}
use native.Mathlib.Omega.{arith}
use borrow.Author.Tests.{ltb-true, ltb-false, eqb-true, not-false, lt-ltb, le-ltb}
use lib.Dec.{ltb, eqb}
use lib.IntN.{ℤ}
use lib.ListN.{length, get_or, drop, set, drop_of_length-le}
use Rattle.list_laws.proofs.Lists.{drop-next}
use Rattle.judge_result.specs.Judged.{least_room}
use Rattle.judge_ends.specs.Sets.{most_sheets, ends_fall_back, start_of, has_wrong_ends, refusal_of_set}
use Rattle.judge_ends.specs.Places.{Parted}

-- ---- ends

neither : (a b : Bool) → a || b ≡ false → (a ≡ false) × (b ≡ false)
neither true b e = absurd (true≢false e)
neither false b e = (refl, e)

-- an end that does not fall back is passed, and one that does is met
pub falls-more : (before : ℕ) (ends : List ℕ) (k : ℕ) → k < length ends → before ≤ get_or ends k 0 → ends_fall_back before (drop k ends) ≡ ends_fall_back (get_or ends k 0) (drop (k + 1) ends)
unfolding ends_fall_back
falls-more before ends k lt le = rw (drop-next ends k 0 lt, le-ltb (get_or ends k 0) before le) refl

pub falls-here : (before : ℕ) (ends : List ℕ) (k : ℕ) → k < length ends → get_or ends k 0 < before → ends_fall_back before (drop k ends) ≡ true
unfolding ends_fall_back
falls-here before ends k lt le = rw (drop-next ends k 0 lt, lt-ltb (get_or ends k 0) before le) refl

pub passed-all : (before : ℕ) (ends : List ℕ) (k : ℕ) → length ends ≤ k → false ≡ ends_fall_back before (drop k ends)
unfolding ends_fall_back
passed-all before ends k le = rw (drop_of_length-le ends le) refl

-- where a sheet starts
pub start_first : (ends : List ℕ) (k : ℕ) → k ≡ 0 → 0 ≡ start_of ends k
start_first ends k e = ap (start_of ends) (sym e)

pub start-next : (ends : List ℕ) (k : ℕ) → (k ≡ 0 → ⊥) → get_or ends (k - 1) 0 ≡ start_of ends k
start-next ends zero some = absurd (some refl)
start-next ends (suc k) some = let e : suc k - 1 ≡ k = omega arith in ap (λ n. get_or ends n 0) e

-- each end that does not fall back is at least the one before it, and the last at least each
ends_ascend : (before : ℕ) (ends : List ℕ) → ends_fall_back before ends ≡ false → (k : ℕ) → k < length ends → get_or (before ∷ ends) k 0 ≤ get_or ends k 0
unfolding ends_fall_back
ends_ascend before [] e k lt = absurd (omega arith)
ends_ascend before (x ∷ es) e zero lt = ltb-false x before (neither (ltb x before) (ends_fall_back x es) e).0
ends_ascend before (x ∷ es) e (suc k) lt = ends_ascend x es (neither (ltb x before) (ends_fall_back x es) e).1 k (omega arith)

first-to-last : (before : ℕ) (ends : List ℕ) → ends_fall_back before ends ≡ false → before ≤ get_or (before ∷ ends) (length ends) 0
unfolding ends_fall_back
first-to-last before [] e = omega arith
first-to-last before (x ∷ es) e =
    let f = neither (ltb x before) (ends_fall_back x es) e in
    let h = ltb-false x before f.0 in
    let l = first-to-last x es f.1 in
    omega arith

ends-to-last : (before : ℕ) (ends : List ℕ) → ends_fall_back before ends ≡ false → (k : ℕ) → k < length ends → get_or ends k 0 ≤ get_or (before ∷ ends) (length ends) 0
unfolding ends_fall_back
ends-to-last before [] e k lt = absurd (omega arith)
ends-to-last before (x ∷ es) e zero lt = first-to-last x es (neither (ltb x before) (ends_fall_back x es) e).1
ends-to-last before (x ∷ es) e (suc k) lt = ends-to-last x es (neither (ltb x before) (ends_fall_back x es) e).1 k (omega arith)

-- ---- what a set is sent back for, and one that is taken

module _ (count : ℕ) (ends : List ℕ) where
  pub wrong_count : most_sheets < length ends → true ≡ has_wrong_ends count ends
  wrong_count many = rw (lt-ltb most_sheets (length ends) many) refl

  pub wrong_fall : length ends ≤ most_sheets → ends_fall_back 0 ends ≡ true → true ≡ has_wrong_ends count ends
  wrong_fall few falls = rw (le-ltb most_sheets (length ends) few, falls) refl

  pub wrong_last : length ends ≤ most_sheets → ends_fall_back 0 ends ≡ false → (last : ℕ) → last ≡ start_of ends (length ends) → not (eqb last count) ≡ has_wrong_ends count ends
  wrong_last few goes last is = rw (le-ltb most_sheets (length ends) few, goes, is) refl

-- fewer words than so many stretches
module _ (words sheets : ℕ) where
  alike : (s t : Bool) → ltb (words / least_room) sheets ≡ s → ltb words (sheets * least_room) ≡ t → s ≡ t
  alike true true e f = refl
  alike true false e f = let h = ltb-true (words / least_room) sheets e in let g = ltb-false words (sheets * least_room) f in absurd (omega arith)
  alike false true e f = let h = ltb-false (words / least_room) sheets e in let g = ltb-true words (sheets * least_room) f in absurd (omega arith)
  alike false false e f = refl

  pub stretches : ltb (words / least_room) sheets ≡ ltb words (sheets * least_room)
  stretches = alike (ltb (words / least_room) sheets) (ltb words (sheets * least_room)) refl refl

module _ (bytes ends : List ℕ) (out : List ℤ) where
  pub by-ends : (w : Bool) → w ≡ has_wrong_ends (length bytes) ends → w ≡ true → 14 ≡ refusal_of_set bytes ends out
  unfolding refusal_of_set
  by-ends w is t = rw (sym is, t) refl

  pub by-room : (w s : Bool) → w ≡ has_wrong_ends (length bytes) ends → s ≡ ltb (length out) (length ends * least_room) → w ≡ false → s ≡ true → 13 ≡ refusal_of_set bytes ends out
  unfolding refusal_of_set
  by-room w s is so f t = rw (sym is, sym so, f, t) refl

  pub by-none : (w s : Bool) → w ≡ has_wrong_ends (length bytes) ends → s ≡ ltb (length out) (length ends * least_room) → w ≡ false → s ≡ false → 0 ≡ refusal_of_set bytes ends out
  unfolding refusal_of_set
  by-none w s is so f g = rw (sym is, sym so, f, g) refl

  both-passed : (a b : Bool) → ◌≡◌ {A = ℕ} (cond a 14 (cond b 13 0)) 0 → (a ≡ false) × (b ≡ false)
  both-passed true b e = absurd (omega arith)
  both-passed false true e = absurd (omega arith)
  both-passed false false e = (refl, refl)

  pub parted : refusal_of_set bytes ends out ≡ 0 → Parted bytes ends (length out)
  unfolding refusal_of_set
  parted e =
      let (right, room) = both-passed (has_wrong_ends (length bytes) ends) (ltb (length out) (length ends * least_room)) e in
      let (few, order) = neither (ltb most_sheets (length ends)) (ends_fall_back 0 ends || not (eqb (start_of ends (length ends)) (length bytes))) right in
      let (goes, last) = neither (ends_fall_back 0 ends) (not (eqb (start_of ends (length ends)) (length bytes))) order in
      let whole = eqb-true (start_of ends (length ends)) (length bytes) (not-false _ last) in
      record {
        few = ltb-false most_sheets (length ends) few;
        ordered = ends_ascend 0 ends goes;
        within = λ k lt. subst (λ n. get_or ends k 0 ≤ n) whole (ends-to-last 0 ends goes k lt);
        room = ltb-false (length out) (length ends * least_room) room;
      }
