-- A line found by its number.
use mathlib.Core.Path.{◌≡◌, refl, sym, ap, ◌∙◌, subst}
use mathlib.Core.Bool.{Bool, true, false, cond, not}
use mathlib.Core.List.{List, [], ◌∷◌}
use Prim.Native.Nat.{ℕ, zero, suc, ◌+◌, ◌-◌, ◌<◌, ◌≤◌}
use native.Mathlib.Omega.{arith}
use borrow.Author.Tests.{lt-ltb, le-ltb, ltb-true, ltb-false}
use lib.Dec.{ltb, eqb}
use lib.ListN.{length, take, drop, get_or, length-drop, drop_of_length-le}
use lib.Seq.{drop-drop, take-length}
use Rattle.sheet_format.specs.Line.{closed, line_at, all}
use Rattle.sheet_format.proofs.LineLaws.{closed-first, closed-nothing}
use Rattle.sheet_line_ends.specs.Before.{before_end}
use Rattle.sheet_lines.specs.Part.{Part}
use Rattle.sheet_line_ends.proofs.Laws.{before_open, before-closes, end-inside}

-- the line with this number, when line k starts at a place
abbrev pub line_from : List ℕ → ℕ → ℕ → ℕ → List ℕ
line_from s at k number = cond (ltb number k) [] (get_or (closed (drop at s)) (number - k) [])

pub from_start : (s : List ℕ) (number : ℕ) → line_at s number ≡ line_from s 0 1 number
from_start s zero = refl
from_start s (suc m) = rw (le-ltb (suc m) 1 (omega arith)) (ap (λ n. get_or (closed s) n []) (let e : m ≡ suc m - 1 = omega arith in e))

-- the closed line at a place
pub closed_at : (s : List ℕ) (at e : ℕ) → at ≤ length s → e ≡ at + before_end (drop at s) → e < length s → closed (drop at s) ≡ take (e - at) (drop at s) ∷ closed (drop (e + 1) s)
closed_at s at e le is lt =
    let t = drop at s in
    let l = length-drop at s in
    ap closed (before-closes t (omega arith))
    ∙ closed-first (take (before_end t) t) (drop (suc (before_end t)) t) (before_open t)
    ∙ ap (λ n. take n t ∷ closed (drop (suc (before_end t)) t)) (let k : before_end t ≡ e - at = omega arith in k)
    ∙ ap (λ x. take (e - at) t ∷ closed x) (drop-drop (suc (before_end t)) at s ∙ ap (λ n. drop n s) (let q : at + suc (before_end t) ≡ e + 1 = omega arith in q))

pub closed_open : (s : List ℕ) (at : ℕ) → at ≤ length s → at + before_end (drop at s) ≡ length s → closed (drop at s) ≡ []
closed_open s at le h =
    let l = length-drop at s in
    let t = drop at s in
    let e : before_end t ≡ length t = omega arith in
    closed-nothing t (subst (λ x. all (λ b. not (eqb b 10)) x ≡ true) (ap (λ n. take n t) e ∙ take-length t) (before_open t))

cond_nil : {A : Type 0} (t : Bool) → cond {A = List A} t [] [] ≡ []
cond_nil true = refl
cond_nil false = refl

empty-part : (s : List ℕ) (r : List ℕ) → r ≡ [] → Part s 0 0 r
empty-part s r e = record { ordered = omega arith; within = omega arith; here = sym e }

pub found_none : (s : List ℕ) (at k number : ℕ) → at ≤ length s → at + before_end (drop at s) ≡ length s → line_at s number ≡ line_from s at k number → Part s 0 0 (line_at s number)
found_none s at k number le h e = empty-part s (line_at s number) (e ∙ ap (λ x. cond (ltb number k) [] (get_or x (number - k) [])) (closed_open s at le h) ∙ cond_nil (ltb number k))

pub found-end : (s : List ℕ) (at k number : ℕ) → length s ≤ at → line_at s number ≡ line_from s at k number → Part s 0 0 (line_at s number)
found-end s at k number le e =
    empty-part s (line_at s number) (e ∙ ap (λ x. cond (ltb number k) [] (get_or (closed x) (number - k) [])) (drop_of_length-le s le) ∙ ap (λ x. cond (ltb number k) [] (get_or x (number - k) [])) (closed-nothing [] refl) ∙ cond_nil (ltb number k))

pub found_here : (s : List ℕ) (at e k number : ℕ) → at ≤ length s → e ≡ at + before_end (drop at s) → e < length s → k ≡ number → line_at s number ≡ line_from s at k number → Part s at e (line_at s number)
found_here s at e k number le is lt same h =
    let b = end-inside s at e le is in
    record {
      ordered = b.0;
      within = b.1;
      here = sym (h ∙ rw (le-ltb number k (omega arith), closed_at s at e le is lt) (ap (λ n. get_or (take (e - at) (drop at s) ∷ closed (drop (e + 1) s)) n []) (let z : number - k ≡ 0 = omega arith in z)));
    }

pub from_next : (s : List ℕ) (at e k number : ℕ) → at ≤ length s → e ≡ at + before_end (drop at s) → e < length s → (k ≡ number → ⊥) → line_at s number ≡ line_from s at k number → line_at s number ≡ line_from s (e + 1) (k + 1) number
from_next s at e k number le is lt other h = h ∙ go (ltb number k) refl
  where
    rest : List (List ℕ)
    rest = closed (drop (e + 1) s)

    go : (t : Bool) → ltb number k ≡ t → cond t [] (get_or (closed (drop at s)) (number - k) []) ≡ line_from s (e + 1) (k + 1) number
    go true q = let i = ltb-true number k q in rw (lt-ltb number (k + 1) (omega arith))
    go false q =
        let i = ltb-false number k q in
        rw (le-ltb number (k + 1) (omega arith), closed_at s at e le is lt)
        (ap (λ n. get_or (take (e - at) (drop at s) ∷ rest) n []) (let z : number - k ≡ suc (number - (k + 1)) = omega arith in z))
