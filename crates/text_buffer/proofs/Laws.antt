-- Laws of bytes that are put at a place.
use mathlib.Core.Path.{◌≡◌, refl, sym, ap, ◌∙◌}
use mathlib.Core.List.{List, [], ◌∷◌, ◌++◌}
use mathlib.Core.Logic.{⊎_elim}
use Prim.Native.Nat.{ℕ, suc, ◌+◌, ◌-◌, min, ◌≤◌, ◌<◌}
use native.Mathlib.Omega.{arith}
use lib.ListN.{length, take, drop, set, length-set, length-append, take-append-drop}
use borrow.Rule.Slice.PartMut.{put_mid, Post-is}
use Rattle.std.proofs.Common.{append_assoc}
use lib.Seq.{sets, length-sets, sets-eq, set_out, take-suc-set, drop-set-lt, append_snoc}
use Rattle.list_laws.proofs.Order.{less?}
use Rattle.text_buffer.specs.Puts.{reached, placed, Put}

append-nil : (l : List ℕ) → l ++ [] ≡ l
append-nil [] = refl
append-nil (x ∷ l) = ap (λ t. x ∷ t) (append-nil l)

-- ---- one byte after the other

none-placed : (out : List ℕ) (at : ℕ) → placed out at [] ≡ out
unfolding placed
none-placed out at =
    let e : min 0 (length out - at) ≡ 0 = omega arith in
    let f : at + 0 ≡ at = omega arith in
    rw (e, f, append-nil) (take-append-drop at out)

out-placed : (out : List ℕ) (at : ℕ) (s : List ℕ) → length out ≤ at → placed out at s ≡ out
unfolding placed
out-placed out at s h =
    let e : min (length s) (length out - at) ≡ 0 = omega arith in
    let f : at + 0 ≡ at = omega arith in
    rw (e, f, append-nil) (take-append-drop at out)

in-placed : (out : List ℕ) (at b : ℕ) (s : List ℕ) → at < length out → placed out at (b ∷ s) ≡ placed (set out at b) (suc at) s
unfolding placed
in-placed out at b s h =
    let k : ℕ = min (length s) (length out - suc at) in
    let e : min (suc (length s)) (length out - at) ≡ suc k = omega arith in
    let f : at + suc k ≡ suc at + k = omega arith in
    rw (length-set out at b, e, f, take-suc-set out at b h, append_snoc, drop-set-lt (suc at + k) out at b (omega arith))

-- bytes are put one after the other
placed_cons : (out : List ℕ) (at b : ℕ) (s : List ℕ) → placed out at (b ∷ s) ≡ placed (set out at b) (suc at) s
placed_cons out at b s =
    ⊎_elim
    (λ h. in-placed out at b s h)
    (λ h. out-placed out at (b ∷ s) h ∙ sym (rw (set_out out at b h) (out-placed out (suc at) s (omega arith))))
    (less? at (length out))

pub placed-sets : (out : List ℕ) (at : ℕ) (s : List ℕ) → placed out at s ≡ sets out at s
placed-sets out at [] = none-placed out at
placed-sets out at (b ∷ s) = placed_cons out at b s ∙ placed-sets (set out at b) (suc at) s

sets_append : (out : List ℕ) (at : ℕ) (s t : List ℕ) → sets out at (s ++ t) ≡ sets (sets out at s) (at + length s) t
sets_append out at [] t = let e : at + 0 ≡ at = omega arith in rw e
sets_append out at (b ∷ s) t =
    let e : at + suc (length s) ≡ suc at + length s = omega arith in
    rw e (sets_append (set out at b) (suc at) s t)

-- ---- what is put, and the place after it

-- the buffer keeps its length
pub placed-length : (out : List ℕ) (at : ℕ) (s : List ℕ) → length (placed out at s) ≡ length out
placed-length out at s = ap length (placed-sets out at s) ∙ length-sets out at s

-- nothing put changes nothing
pub placed-none : (out : List ℕ) (at : ℕ) → placed out at [] ≡ out
placed-none out at = none-placed out at

pub reached-none : (n at : ℕ) → reached n at [] ≡ at
unfolding reached
reached-none n at = omega arith

-- beyond the end nothing is put
pub placed-beyond : (out : List ℕ) (at : ℕ) (s : List ℕ) → length out ≤ at → placed out at s ≡ out
placed-beyond out at s h = out-placed out at s h

-- the place after is not before the first, and within the buffer where the first is
pub reached-from : (n at : ℕ) (s : List ℕ) → at ≤ reached n at s
unfolding reached
reached-from n at s = omega arith

pub reached-within : (n at : ℕ) (s : List ℕ) → at ≤ n → reached n at s ≤ n
unfolding reached
reached-within n at s h = omega arith

-- where the buffer has room, all of it is put
pub reached-all : (n at : ℕ) (s : List ℕ) → at + length s ≤ n → reached n at s ≡ at + length s
unfolding reached
reached-all n at s h = omega arith

pub placed-all : (out : List ℕ) (at : ℕ) (s : List ℕ) → at + length s ≤ length out → placed out at s ≡ take at out ++ s ++ drop (at + length s) out
placed-all out at s h = placed-sets out at s ∙ sets-eq s out at h

-- one after the other
pub reached_append : (n at : ℕ) (s t : List ℕ) → reached n at (s ++ t) ≡ reached n (reached n at s) t
unfolding reached
reached_append n at s t = rw (length-append s t) (omega arith)

pub placed_append : (out : List ℕ) (at : ℕ) (s t : List ℕ) → placed out at (s ++ t) ≡ placed (placed out at s) (reached (length out) at s) t
unfolding reached
placed_append out at s t =
    let n : ℕ = length out in
    let k : length (placed out at s) ≡ n = placed-length out at s in
    let one : placed out at (s ++ t) ≡ placed (placed out at s) (at + length s) t =
    rw (placed-sets out at (s ++ t), placed-sets out at s, placed-sets (sets out at s) (at + length s) t) (sets_append out at s t) in
    ⊎_elim
    (λ h.
    let e : n ≤ at + min (length s) (n - at) = omega arith in
    one
    ∙ placed-beyond (placed out at s) (at + length s) t (omega arith)
    ∙ sym (placed-beyond (placed out at s) (at + min (length s) (n - at)) t (omega arith)))
    (λ h. let e : at + min (length s) (n - at) ≡ at + length s = omega arith in rw e one)
    (less? (n - at) (length s))

-- ---- what the calls ensure

-- nothing is put
pub nothing : (out : List ℕ) (at : ℕ) → Put out out at [] at
nothing out at = record { bytes = sym (placed-none out at); place = sym (reached-none (length out) at) }

-- the buffer keeps its length
pub kept : {a b : List ℕ} {at n : ℕ} {s : List ℕ} → Put a b at s n → length b ≡ length a
kept {a} {b} {at} {n} {s} p = ap length p.bytes ∙ placed-length a at s

-- one after the other
pub followed : {a b c : List ℕ} {at n m : ℕ} {s t : List ℕ} → Put a b at s n → Put b c n t m → Put a c at (s ++ t) m
followed {a} {b} {c} {at} {n} {m} {s} {t} p q =
    record {
      bytes = rw (placed_append a at s t, ← p.place, ← p.bytes) q.bytes;
      place = rw (reached_append (length a) at s t, ← p.place, ← kept p) q.place;
    }

-- put bytes, said of equal ones
pub said : {a b : List ℕ} {at n : ℕ} {s t : List ℕ} → s ≡ t → Put a b at s n → Put a b at t n
said e p = rw (← e) p

-- beyond the buffer nothing is put
pub outside : (out : List ℕ) (at : ℕ) (s : List ℕ) → length out ≤ at → Put out out at s at
unfolding reached
outside out at s h = record { bytes = sym (placed-beyond out at s h); place = omega arith }

-- a part of the buffer becomes what fits there
pub copied : (out : List ℕ) (at n : ℕ) (s part : List ℕ) → at < length out → n ≡ min (length s) (length out - at) → part ≡ take n s → Put out (put_mid at (at + n - at) out part) at s (at + n)
unfolding placed reached
copied out at n s part h e p =
    record {
      bytes = rw (Post-is at (at + n) out (omega arith), p, ← e) (sym (append_assoc (take at out) (take n s) (drop (at + n) out)));
      place = rw e refl;
    }
