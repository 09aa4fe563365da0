-- The bytes that a text stands for.
use mathlib.Core.Path.{◌≡◌, refl, sym, ◌∙◌}
use mathlib.Core.List.{List, [], ◌∷◌, ◌++◌, append_assoc, append-nil}
use Prim.Native.Nat.{ℕ, zero, suc, ◌+◌, ◌-◌, ◌*◌, ◌≤◌, ◌<◌, min}
use native.Mathlib.Numerals.{add-one}
use native.Mathlib.Omega.{arith}
use lib.ListN.{length, get_or, take, drop, replicate, drop_of_length-le, replicate-append-replicate}
use lib.Seq.{drop-cons, drop-drop}
use borrow.Author.Tests.{lt-ltb, le-ltb, ne_eqb}
use mathlib.Core.Logic.{⊎_elim, inl, inr}
use Rattle.std.proofs.lemmas.List.{length-take, take_min}
use Rattle.std.proofs.Math.Seq.{take-append_seam}
use Rattle.text_buffer.specs.Puts.{Put, placed, reached}
use Rattle.text_buffer.proofs.Laws.{nothing, kept, followed, said, reached-within}
use types.Run.{OneOf}
use Rattle.test_bytes.specs.Bytes.{digit_value, escaped_by, extent, meant_by, stands_for, times_of}

-- a digit, a letter from a to f, and any other byte
pub digit_figure : (b : ℕ) → 47 < b → b < 58 → b - 48 ≡ digit_value b
unfolding digit_value
digit_figure b h k = rw (le-ltb b 48 (omega arith), lt-ltb b 58 k)

pub digit_letter : (b : ℕ) → 96 < b → b < 103 → b - 87 ≡ digit_value b
unfolding digit_value
digit_letter b h k = rw (le-ltb b 48 (omega arith), le-ltb b 58 (omega arith), le-ltb b 97 (omega arith), lt-ltb b 103 k)

pub digit_low : (b : ℕ) → b < 48 → 0 ≡ digit_value b
unfolding digit_value
digit_low b h = rw (lt-ltb b 48 h)

pub digit-between : (b : ℕ) → 57 < b → b < 97 → 0 ≡ digit_value b
unfolding digit_value
digit-between b h k = rw (le-ltb b 48 (omega arith), le-ltb b 58 (omega arith), lt-ltb b 97 k)

pub digit-high : (b : ℕ) → 102 < b → 0 ≡ digit_value b
unfolding digit_value
digit-high b h = rw (le-ltb b 48 (omega arith), le-ltb b 58 (omega arith), le-ltb b 97 (omega arith), le-ltb b 103 (omega arith))

-- fewer than two bytes, and two or more
pub escaped_few : (s : List ℕ) → length s < 2 → 0 ≡ escaped_by s
unfolding escaped_by
escaped_few [] h = refl
escaped_few (b ∷ []) h = refl
escaped_few (b ∷ d ∷ s) h = absurd (omega arith)

pub escaped_two : (s : List ℕ) → 2 ≤ length s → digit_value (get_or s 0 0) * 16 + digit_value (get_or s 1 0) ≡ escaped_by s
unfolding escaped_by
escaped_two [] h = absurd (omega arith)
escaped_two (b ∷ []) h = absurd (omega arith)
escaped_two (b ∷ d ∷ s) h = refl

-- what a byte stands for
pub meant_blank : (b : ℕ) (s : List ℕ) → OneOf (44 ∷ 59 ∷ []) b → 32 ≡ meant_by b s
unfolding meant_by
meant_blank b s o = ⊎_elim (λ e. rw e) (λ e. rw e) o

pub meant_line : (b : ℕ) (s : List ℕ) → b ≡ 47 → 10 ≡ meant_by b s
unfolding meant_by
meant_line b s e = rw e

pub meant_escaped : (b : ℕ) (s : List ℕ) → b ≡ 92 → escaped_by s ≡ meant_by b s
unfolding meant_by
meant_escaped b s e = rw e

pub meant_itself : (b : ℕ) (s : List ℕ) → (OneOf (44 ∷ 59 ∷ []) b → ⊥) → (b ≡ 47 → ⊥) → (b ≡ 92 → ⊥) → b ≡ meant_by b s
unfolding meant_by
meant_itself b s o l e = rw (ne_eqb b 44 (λ x. o (inl x)), ne_eqb b 59 (λ x. o (inr x)), ne_eqb b 47 l, ne_eqb b 92 e)

-- how often
pub times_seven : (b : ℕ) → b ≡ 44 → 7 ≡ times_of b
unfolding times_of
times_seven b e = rw e

pub times_six : (b : ℕ) → b ≡ 59 → 6 ≡ times_of b
unfolding times_of
times_six b e = rw e

pub times_one : (b : ℕ) → (b ≡ 44 → ⊥) → (b ≡ 59 → ⊥) → 1 ≡ times_of b
unfolding times_of
times_one b n m = rw (ne_eqb b 44 n, ne_eqb b 59 m)

-- how many bytes belong to it
pub extent-two : (b : ℕ) → b ≡ 92 → 3 ≡ extent b + 1
unfolding extent
extent-two b e = rw e

pub extent-none : (b : ℕ) → (b ≡ 92 → ⊥) → 1 ≡ extent b + 1
unfolding extent
extent-none b n = rw (ne_eqb b 92 n)

-- bytes that are passed over
skipped : (k : ℕ) (s : List ℕ) → stands_for k s ≡ stands_for 0 (drop k s)
unfolding stands_for
skipped zero s = refl
skipped (suc k) [] = refl
skipped (suc k) (b ∷ s) = skipped k s

stands-first : (s : List ℕ) (i : ℕ) → i < length s → stands_for 0 (drop i s) ≡ replicate (times_of (get_or s i 0)) (meant_by (get_or s i 0) (drop (i + 1) s)) ++ stands_for 0 (drop (i + (extent (get_or s i 0) + 1)) s)
unfolding stands_for
stands-first s i h =
    let x : ℕ = get_or s i 0 in
    let e : i + (extent x + 1) ≡ suc i + extent x = omega arith in
    rw (add-one i, drop-cons s i 0 h, skipped (extent x) (drop (suc i) s), drop-drop (extent x) (suc i) s, e)

-- what the first i bytes of a text stand for is put
pub record Half (text old new : List ℕ) (i n : ℕ) : Type 0 where
  pub done : List ℕ
  pub is : Put old new 0 done n
  pub rest : done ++ stands_for 0 (drop i text) ≡ stands_for 0 text

-- nothing is put
pub half_none : (text out : List ℕ) → Half text out out 0 0
half_none text out = record { done = []; is = nothing out 0; rest = refl }

-- what one byte more stands for is put
pub half_more : {text a b c : List ℕ} {n m : ℕ} (i : ℕ) → i < length text → Half text a b i n
    → Put b c n (replicate (times_of (get_or text i 0)) (meant_by (get_or text i 0) (drop (i + 1) text))) m
    → Half text a c (i + (extent (get_or text i 0) + 1)) m
half_more {text} i l h p =
    record {
      done = h.done ++ replicate (times_of (get_or text i 0)) (meant_by (get_or text i 0) (drop (i + 1) text));
      is = followed h.is p;
      rest = rw (append_assoc, ← stands-first text i l) h.rest;
    }

-- all is put
pub half_all : {text a b : List ℕ} {i n : ℕ} → length text ≤ i → Half text a b i n → Put a b 0 (stands_for 0 text) n
unfolding stands_for
half_all {text} {a} {b} {i} l h =
    let d : drop i text ≡ [] = drop_of_length-le text l in
    let e : h.done ++ [] ≡ stands_for 0 text = rw d at h.rest in
    said (sym (append-nil h.done) ∙ e) h.is

-- a count of bytes that were put at the start
pub put-within : {a b s : List ℕ} {n : ℕ} → Put a b 0 s n → n ≤ length b
put-within {a} {b} {s} {n} p = let k = kept p in let e = p.place in let w = reached-within (length a) 0 s (omega arith) in omega arith

-- one byte more of the same
pub same_more : {a b c : List ℕ} {at n m : ℕ} (i x : ℕ) → Put a b at (replicate i x) n → Put b c n (x ∷ []) m → Put a c at (replicate (i + 1) x) m
same_more i x p q = said (replicate-append-replicate i 1 x) (followed p q)

-- what is put at the start
pub put_front : (a b s : List ℕ) (n : ℕ) → Put a b 0 s n → take n b ≡ take (length a) s
unfolding placed reached
put_front a b s n p =
    let front : List ℕ = take (min (length a) (length s)) s in
    let f : min (length s) (length a - 0) ≡ min (length a) (length s) = omega arith in
    let q = p.place in
    let e : n ≡ length front = rw (length-take (min (length a) (length s)) s) (omega arith) in
    let g = rw f at p.bytes in
    rw (g, e) (take-append_seam front (drop (0 + min (length a) (length s)) a)) ∙ take_min (length a) s
