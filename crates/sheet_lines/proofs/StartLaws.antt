-- Where a line starts, found by its number.
use mathlib.Core.Path.{◌≡◌, refl, sym, ap, ◌∙◌}
use mathlib.Core.Bool.{Bool, true, false, cond}
use mathlib.Core.List.{List, [], ◌∷◌}
use Prim.Native.Nat.{ℕ, zero, suc, ◌+◌, ◌-◌, ◌<◌, ◌≤◌}
use native.Mathlib.Omega.{arith}
use borrow.Author.Tests.{lt-ltb, le-ltb, ltb-true, ltb-false}
use lib.Dec.{ltb}
use lib.ListN.{length, take, drop, length-drop, drop_of_length-le}
use lib.Seq.{length-take-le}
use Rattle.sheet_format.specs.Line.{closed}
use Rattle.sheet_format.proofs.LineLaws.{closed-nothing}
use Rattle.sheet_line_ends.specs.Before.{before_end}
use Rattle.sheet_lines.specs.Start.{start_in, line_start}
use Rattle.sheet_lines.proofs.FindLaws.{closed_at, closed_open}
use Rattle.sheet_line_ends.proofs.Laws.{end-inside}

-- the start of the line with this number, when line k starts at a place
abbrev pub start_from : List ℕ → ℕ → ℕ → ℕ → ℕ
start_from s at k number = cond (ltb number k) 0 (start_in at (closed (drop at s)) (number - k))

pub start_first : (s : List ℕ) (number : ℕ) → line_start s number ≡ start_from s 0 1 number
start_first s zero = refl
start_first s (suc m) = rw (le-ltb (suc m) 1 (omega arith)) (ap (λ n. start_in 0 (closed s) n) (let e : m ≡ suc m - 1 = omega arith in e))

cond-zero : (t : Bool) → ◌≡◌ {A = ℕ} (cond t 0 0) 0
cond-zero true = refl
cond-zero false = refl

pub start_none : (s : List ℕ) (at k number : ℕ) → at ≤ length s → at + before_end (drop at s) ≡ length s → line_start s number ≡ start_from s at k number → 0 ≡ line_start s number
start_none s at k number le h e = sym (e ∙ ap (λ x. cond (ltb number k) 0 (start_in at x (number - k))) (closed_open s at le h) ∙ cond-zero (ltb number k))

pub start-end : (s : List ℕ) (at k number : ℕ) → length s ≤ at → line_start s number ≡ start_from s at k number → 0 ≡ line_start s number
start-end s at k number le e =
    sym
    (e
    ∙ ap (λ x. cond (ltb number k) 0 (start_in at (closed x) (number - k))) (drop_of_length-le s le)
    ∙ ap (λ x. cond (ltb number k) 0 (start_in at x (number - k))) (closed-nothing [] refl)
    ∙ cond-zero (ltb number k))

pub start-here : (s : List ℕ) (at e k number : ℕ) → at ≤ length s → e ≡ at + before_end (drop at s) → e < length s → k ≡ number → line_start s number ≡ start_from s at k number → at ≡ line_start s number
start-here s at e k number le is lt same h =
    sym
    (h
    ∙ rw (le-ltb number k (omega arith), closed_at s at e le is lt)
    (ap (λ n. start_in at (take (e - at) (drop at s) ∷ closed (drop (e + 1) s)) n) (let z : number - k ≡ 0 = omega arith in z)))

pub start-next : (s : List ℕ) (at e k number : ℕ) → at ≤ length s → e ≡ at + before_end (drop at s) → e < length s → (k ≡ number → ⊥) → line_start s number ≡ start_from s at k number → line_start s number ≡ start_from s (e + 1) (k + 1) number
start-next s at e k number le is lt other h = h ∙ go (ltb number k) refl
  where
    rest : List (List ℕ)
    rest = closed (drop (e + 1) s)

    passed : at + length (take (e - at) (drop at s)) + 1 ≡ e + 1
    passed =
        let b = end-inside s at e le is in
        let l = length-drop at s in
        let t = length-take-le (e - at) (drop at s) (omega arith) in
        omega arith

    go : (t : Bool) → ltb number k ≡ t → cond t 0 (start_in at (closed (drop at s)) (number - k)) ≡ start_from s (e + 1) (k + 1) number
    go true q = let i = ltb-true number k q in rw (lt-ltb number (k + 1) (omega arith))
    go false q =
        let i = ltb-false number k q in
        rw (le-ltb number (k + 1) (omega arith), closed_at s at e le is lt)
        (ap (λ n. start_in at (take (e - at) (drop at s) ∷ rest) n) (let z : number - k ≡ suc (number - (k + 1)) = omega arith in z)
        ∙ ap (λ a. start_in a rest (number - (k + 1))) passed)
