-- Laws of a field's bytes: what is written reads back, and what was read is what would be written.
use mathlib.Core.Path.{◌≡◌, refl, sym, ap, ◌∙◌, subst}
use mathlib.Core.Bool.{Bool, true, false, cond, not, ◌&&◌}
use mathlib.Core.List.{List, [], ◌∷◌, ◌++◌, append-nil}
use Prim.Native.Nat.{ℕ, zero, suc, ◌+◌, ◌-◌, ◌*◌, ◌/◌, ◌%◌, ◌<◌, ◌≤◌, ◌^◌}
use native.Mathlib.Omega.{arith}
use native.Mathlib.Nat.{pow-suc, pow-le-pow_right}
use lib.Dec.{eqb, ltb}
use lib.IntN.{ℤ, pos, negsuc}
use lib.ListN.{length, replicate, length-append, length-replicate}
use lib.Seq.{append_snoc}
use borrow.Author.Tests.{ltb-true, ltb-false, lt-ltb, le-ltb, eqb-true, eqb-false, ne_eqb}
use Rattle.sheet_format.specs.Limits.{field_end, field_minus_end}
use Rattle.sheet_format.specs.Field.{digit, byte, run, told, field_of, lead, decimal, field_bytes, fits}
use Rattle.sheet_format.specs.Line.{all}
use Rattle.sheet_format.specs.declared.Digits.{Digits}
use Rattle.sheet_format.specs.declared.Digits.TheVariants.{Blank, Minus, Run, Broken}
use Rattle.sheet_format.specs.Answers.Field.{Number, Malformed}

-- ---- columns

abbrev pub blanks : ℕ → List ℕ
blanks k = replicate k 32

one_more : (x : List ℕ) (b : ℕ) → length (x ++ (b ∷ [])) ≡ suc (length x)
one_more x b = length-append x (b ∷ []) ∙ (let e : length x + 1 ≡ suc (length x) = omega arith in e)

lead-length : (k : ℕ) (neg : Bool) → length (lead k neg) ≡ k
lead-length zero neg = refl
lead-length (suc k) neg = one_more (blanks k) (cond neg 45 32) ∙ ap suc (length-replicate k 32)

decimal-length : (k : ℕ) (neg : Bool) (v : ℕ) → length (decimal k neg v) ≡ k
unfolding decimal
decimal-length zero neg v = refl
decimal-length (suc k) neg v = one_more (cond (ltb v 10) (lead k neg) (decimal k neg (v / 10))) (48 + v % 10) ∙ ap suc (either (decimal-length k neg (v / 10)) (ltb v 10))
  where
    either : length (decimal k neg (v / 10)) ≡ k → (t : Bool) → length (cond t (lead k neg) (decimal k neg (v / 10))) ≡ k
    either h true = lead-length k neg
    either h false = h

pub field-length : (z : ℤ) → length (field_bytes z) ≡ 8
field-length (pos n) = decimal-length 8 false n
field-length (negsuc n) = decimal-length 8 true (suc n)

blanks-last : (k : ℕ) → blanks k ++ (32 ∷ []) ≡ blanks (suc k)
blanks-last zero = refl
blanks-last (suc k) = ap (λ t. 32 ∷ t) (blanks-last k)

pub lead-blank : (k : ℕ) → blanks k ≡ lead k false
lead-blank zero = refl
lead-blank (suc k) = sym (blanks-last k)

-- v has a digit, and fits k columns; a negative one leaves a column for the sign
Room : ℕ → Bool → ℕ → Type 0
Room zero neg v = ⊥
Room (suc k) false v = v < 10 ^ suc k
Room (suc k) true v = (0 < v) × (v < 10 ^ k)

-- without its last digit
room-less : (k : ℕ) (neg : Bool) (v : ℕ) → 10 ≤ v → Room (suc k) neg v → Room k neg (v / 10)
unfolding Room
room-less zero false v le h = omega arith
room-less zero true v le h = omega arith
room-less (suc k) false v le h = omega (arith, pow-suc 10 (suc k))
room-less (suc k) true v le h = omega (arith, pow-suc 10 k)

-- with one digit more
room-more : (k : ℕ) (neg : Bool) (v d : ℕ) → d < 10 → Room k neg v → Room (suc k) neg (v * 10 + d)
unfolding Room
room-more zero neg v d lt h = elim h [ ]
room-more (suc k) false v d lt h = omega (arith, pow-suc 10 (suc k))
room-more (suc k) true v d lt h = omega (arith, pow-suc 10 k)

pub ten-pos : (i : ℕ) → 1 ≤ 10 ^ i
ten-pos i = pow-le-pow_right {n = 10} (omega arith) {i = 0} (omega arith)

-- ---- writing

run_append : (d : Digits) (x y : List ℕ) → run d (x ++ y) ≡ run (run d x) y
unfolding run
run_append d [] y = refl
run_append d (b ∷ x) y = run_append (byte d b) x y

run-last : (d e : Digits) (x : List ℕ) (b : ℕ) → run d x ≡ e → run d (x ++ (b ∷ [])) ≡ byte e b
unfolding run
run-last d e x b h = run_append d x (b ∷ []) ∙ ap (λ t. byte t b) h

run-blanks : (k : ℕ) → run Blank (blanks k) ≡ Blank
unfolding run
run-blanks zero = refl
run-blanks (suc k) = run-blanks k

digit-is : (neg : Bool) (v n : ℕ) → v * 10 + n % 10 ≡ n → digit neg v (48 + n % 10) ≡ Run neg n
digit-is neg v n e =
    rw (le-ltb (48 + n % 10) 48 (omega arith), le-ltb 57 (48 + n % 10) (omega arith))
    (ap (Run neg) (let f : v * 10 + (48 + n % 10 - 48) ≡ n = omega arith in f))

first-is : (k : ℕ) (neg : Bool) (v : ℕ) → v < 10 → Room (suc k) neg v → byte (run Blank (lead k neg)) (48 + v % 10) ≡ Run neg v
unfolding Room
first-is k false v lt h =
    ap (λ d. byte d (48 + v % 10)) (ap (run Blank) (sym (lead-blank k)) ∙ run-blanks k)
    ∙ rw (ne_eqb (48 + v % 10) 32 (λ e. omega arith), ne_eqb (48 + v % 10) 45 (λ e. omega arith)) (digit-is false 0 v (omega arith))
first-is zero true v lt h = absurd (omega arith)
first-is (suc k) true v lt h =
    ap (λ d. byte d (48 + v % 10)) (run-last Blank Blank (blanks k) 45 (run-blanks k))
    ∙ rw (ne_eqb (48 + v % 10) 48 (λ e. omega arith)) (digit-is true 0 v (omega arith))

run-decimal : (k : ℕ) (neg : Bool) (v : ℕ) → Room k neg v → run Blank (decimal k neg v) ≡ Run neg v
unfolding decimal run Room
run-decimal zero neg v h = elim h [ ]
run-decimal (suc k) neg v h =
    run_append Blank (cond (ltb v 10) (lead k neg) (decimal k neg (v / 10))) ((48 + v % 10) ∷ []) ∙ either (run-decimal k neg (v / 10)) (ltb v 10) refl
  where
    either : (Room k neg (v / 10) → run Blank (decimal k neg (v / 10)) ≡ Run neg (v / 10)) → (t : Bool) → ltb v 10 ≡ t → run (run Blank (cond t (lead k neg) (decimal k neg (v / 10)))) ((48 + v % 10) ∷ []) ≡ Run neg v
    either less true e = first-is k neg v (ltb-true v 10 e) h
    either less false e =
        let le = ltb-false v 10 e in
        ap (λ d. byte d (48 + v % 10)) (less (room-less k neg v le h))
        ∙ rw (ne_eqb (v / 10) 0 (λ f. omega arith)) (digit-is neg (v / 10) v (omega arith))

pub field_back : (z : ℤ) → fits z ≡ true → field_of (field_bytes z) ≡ Number z
unfolding Room
field_back (pos n) e = ap told (run-decimal 8 false n (ltb-true n field_end e))
field_back (negsuc n) e = ap told (run-decimal 8 true (suc n) (omega arith, ltb-true (suc n) field_minus_end e))

-- ---- reading

-- k bytes that came to d
Shown : ℕ → Digits → List ℕ → Type 0
Shown k Blank s = s ≡ blanks k
Shown k Minus s = (0 < k) × (s ≡ lead k true)
Shown k (Run neg v) s = (s ≡ decimal k neg v) × Room k neg v
Shown k Broken s = Unit {0}

shown-if : (t : Bool) (k : ℕ) (x y : Digits) (s : List ℕ) → (t ≡ true → Shown k x s) → (t ≡ false → Shown k y s) → Shown k (cond t x y) s
shown-if true k x y s f g = f refl
shown-if false k x y s f g = g refl

shown-digit : (k : ℕ) (neg : Bool) (v b : ℕ) (s : List ℕ) → (48 ≤ b → b < 58 → Shown k (Run neg (v * 10 + (b - 48))) s) → Shown k (digit neg v b) s
unfolding Shown
shown-digit k neg v b s f =
    shown-if (ltb b 48) k Broken _ s (λ e. tt) (λ e. shown-if (ltb 57 b) k Broken (Run neg (v * 10 + (b - 48))) s (λ g. tt) (λ g.
    let lo = ltb-false b 48 e in
    let hi = ltb-false 57 b g in
    f lo (omega arith)))

-- a first digit
decimal-first : (k : ℕ) (neg : Bool) (b : ℕ) (s : List ℕ) → 48 ≤ b → b < 58 → s ≡ lead k neg → s ++ (b ∷ []) ≡ decimal (suc k) neg (0 * 10 + (b - 48))
unfolding decimal
decimal-first k neg b s lo hi e =
    rw (lt-ltb (0 * 10 + (b - 48)) 10 (omega arith))
    (ap (λ x. x ++ (b ∷ [])) e ∙ ap (λ n. lead k neg ++ (n ∷ [])) (let f : b ≡ 48 + (0 * 10 + (b - 48)) % 10 = omega arith in f))

-- any other
decimal-next : (k : ℕ) (neg : Bool) (v b : ℕ) (s : List ℕ) → 0 < v → 48 ≤ b → b < 58 → s ≡ decimal k neg v → s ++ (b ∷ []) ≡ decimal (suc k) neg (v * 10 + (b - 48))
unfolding decimal
decimal-next k neg v b s lt lo hi e =
    rw (le-ltb (v * 10 + (b - 48)) 10 (omega arith))
    (ap (λ x. x ++ (b ∷ [])) (e ∙ ap (decimal k neg) (let f : v ≡ (v * 10 + (b - 48)) / 10 = omega arith in f))
    ∙ ap (λ n. decimal k neg ((v * 10 + (b - 48)) / 10) ++ (n ∷ [])) (let f : b ≡ 48 + (v * 10 + (b - 48)) % 10 = omega arith in f))

-- one byte more
shown-byte : (k : ℕ) (d : Digits) (b : ℕ) (s : List ℕ) → Shown k d s → Shown (suc k) (byte d b) (s ++ (b ∷ []))
unfolding Shown Room
shown-byte k Blank b s h =
    shown-if (eqb b 32) (suc k) Blank _ _ (λ e. ap (λ n. s ++ (n ∷ [])) (eqb-true b 32 e) ∙ ap (λ x. x ++ (32 ∷ [])) h ∙ blanks-last k) (λ _.
    shown-if (eqb b 45) (suc k) Minus (digit false 0 b) _ (λ e. (omega arith, ap (λ n. s ++ (n ∷ [])) (eqb-true b 45 e) ∙ ap (λ x. x ++ (45 ∷ [])) h)) (λ _.
    shown-digit (suc k) false 0 b _ (λ lo hi. (decimal-first k false b s lo hi (h ∙ lead-blank k), omega (arith, pow-suc 10 k, ten-pos k)))))
shown-byte zero Minus b s h = absurd (omega arith)
shown-byte (suc k) Minus b s h =
    shown-if (eqb b 48) (suc (suc k)) Broken (digit true 0 b) _ (λ _. tt) (λ e.
    let ne = eqb-false b 48 e in
    shown-digit (suc (suc k)) true 0 b _ (λ lo hi. (decimal-first (suc k) true b s lo hi h.1, omega (arith, pow-suc 10 k, ten-pos k))))
shown-byte k (Run neg v) b s h =
    shown-if (eqb v 0) (suc k) Broken (digit neg v b) _ (λ _. tt) (λ e.
    let ne = eqb-false v 0 e in
    shown-digit (suc k) neg v b _ (λ lo hi. (decimal-next k neg v b s (omega arith) lo hi h.0, room-more k neg v (b - 48) (omega arith) h.1)))
shown-byte k Broken b s h = tt

shown-from : (k : ℕ) (d : Digits) (x s : List ℕ) → Shown k d x → Shown (k + length s) (run d s) (x ++ s)
unfolding run
shown-from k d x [] h = subst (λ l. Shown (k + 0) d l) (sym (append-nil x)) (subst (λ n. Shown n d x) (let e : k ≡ k + 0 = omega arith in e) h)
shown-from k d x (b ∷ s) h =
    subst (λ l. Shown (k + suc (length s)) (run (byte d b) s) l) (append_snoc x b s)
    (subst (λ n. Shown n (run (byte d b) s) ((x ++ (b ∷ [])) ++ s)) (let e : suc k + length s ≡ k + suc (length s) = omega arith in e)
    (shown-from (suc k) (byte d b) (x ++ (b ∷ [])) s (shown-byte k d b x h)))

shown : (s : List ℕ) → length s ≡ 8 → Shown 8 (run Blank s) s
unfolding Shown
shown s e = subst (λ n. Shown n (run Blank s) s) (let f : 0 + length s ≡ 8 = omega arith in f) (shown-from 0 Blank [] s refl)

none {ℓ} : {A : Type ℓ} {z : ℤ} → Malformed ≡ Number z → A
none e = let f : ◌≡◌ {A = ℕ} 0 1 = cc in absurd (omega arith)

same : (x z : ℤ) → Number x ≡ Number z → x ≡ z
same x z e = cc

told-shown : (d : Digits) (s : List ℕ) (z : ℤ) → Shown 8 d s → told d ≡ Number z → (field_bytes z ≡ s) × (fits z ≡ true)
unfolding Shown Room
told-shown Blank s z h e = none e
told-shown Minus s z h e = none e
told-shown (Run false v) s z h e = subst (λ x. (field_bytes x ≡ s) × (fits x ≡ true)) (same (pos v) z e) (sym h.0, lt-ltb v field_end h.1)
told-shown (Run true zero) s z h e = absurd (omega arith)
told-shown (Run true (suc n)) s z h e = subst (λ x. (field_bytes x ≡ s) × (fits x ≡ true)) (same (negsuc n) z e) (sym h.0, lt-ltb (suc n) field_minus_end h.1.1)
told-shown Broken s z h e = none e

pub field-shown : (s : List ℕ) (z : ℤ) → length s ≡ 8 → field_of s ≡ Number z → field_bytes z ≡ s
field-shown s z l e = (told-shown (run Blank s) s z (shown s l) e).0

pub field_fits : (s : List ℕ) (z : ℤ) → length s ≡ 8 → field_of s ≡ Number z → fits z ≡ true
field_fits s z l e = (told-shown (run Blank s) s z (shown s l) e).1

-- ---- byte 10

run-broken : (s : List ℕ) → run Broken s ≡ Broken
unfolding run
run-broken [] = refl
run-broken (b ∷ s) = run-broken s

byte-ten : (d : Digits) → byte d 10 ≡ Broken
byte-ten Blank = refl
byte-ten Minus = refl
byte-ten (Run neg v) = either (eqb v 0)
  where
    either : (t : Bool) → cond t Broken Broken ≡ Broken
    either true = refl
    either false = refl
byte-ten Broken = refl

open_run : (d : Digits) (s : List ℕ) → (run d s ≡ Broken → ⊥) → all (λ b. not (eqb b 10)) s ≡ true
unfolding run
open_run d [] h = refl
open_run d (b ∷ s) h = either (open_run (byte d b) s h) (eqb b 10) refl
  where
    either : all (λ b. not (eqb b 10)) s ≡ true → (t : Bool) → eqb b 10 ≡ t → not t && all (λ b. not (eqb b 10)) s ≡ true
    either r true e = absurd (h (ap (λ n. run (byte d n) s) (eqb-true b 10 e) ∙ ap (λ x. run x s) (byte-ten d) ∙ run-broken s))
    either r false e = r

pub field_open : (s : List ℕ) (z : ℤ) → field_of s ≡ Number z → all (λ b. not (eqb b 10)) s ≡ true
field_open s z e = open_run Blank s (λ f. none (sym (ap told f) ∙ e))
