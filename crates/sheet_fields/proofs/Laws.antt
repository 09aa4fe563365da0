-- What the loops over a field's bytes keep, and what the casts between signed and unsigned numbers give.
use mathlib.Core.Path.{◌≡◌, refl, sym, ap, ◌∙◌, subst}
use mathlib.Core.Bool.{Bool, true, false, cond}
use mathlib.Core.List.{List, [], ◌∷◌, ◌++◌}
use Prim.Native.Nat.{ℕ, zero, suc, ◌+◌, ◌-◌, ◌*◌, ◌/◌, ◌%◌, ◌<◌, ◌≤◌, ◌^◌}
use native.Mathlib.Omega.{arith}
use native.Mathlib.Nat.{pow-suc, pow-le-pow_right}
use native.Mathlib.Numerals.{add-one}
use lib.Dec.{eqb, ltb}
use lib.IntN.{ℤ, pos, negsuc, nat_abs, ◌+ℤ◌, ◌-ℤ◌}
use lib.Signed.{lt_z}
use lib.ListN.{length, get_or, take, drop, set, replicate, take-append-drop}
use lib.Seq.{drop-cons, set_split, drop_at, length-take-le, take-take, take-set-le, append_snoc}
use mir.Syntax.{w32}
use mir.Val.{SFits}
use borrow.Author.Tests.{ltb-true, ltb-false, lt-ltb, le-ltb, le-leb, lt-leb}
use Rattle.sheet_format.specs.Limits.{field_end}
use Rattle.sheet_format.proofs.FieldLaws.{blanks, lead-blank, ten-pos}
use Rattle.sheet_format.proofs.Lists.{no_way}
use Rattle.sheet_format.specs.Field.{digit, byte, run, minus, field_of, field_at, lead, decimal, field_bytes}
use Rattle.sheet_format.specs.declared.Digits.{Digits}
use Rattle.sheet_format.specs.declared.Digits.TheVariants.{Blank, Minus, Run, Broken}
use Rattle.sheet_format.specs.Answers.Field.{Malformed}
use Rattle.sheet_fields.specs.Below.{DigitsBelow}

-- ---- reading: the rest of the eight bytes, from i on

run_cons : (s : List ℕ) (d : Digits) (p q k l : ℕ) → p < length s → k ≡ suc l → suc p ≡ q → run d (take k (drop p s)) ≡ run (byte d (get_or s p 0)) (take l (drop q s))
unfolding run
run_cons s d p q k l lt e g = ap (λ n. run d (take n (drop p s))) e ∙ ap (λ t. run d (take (suc l) t)) (drop-cons s p 0 lt) ∙ ap (λ n. run (byte d (get_or s p 0)) (take l (drop n s))) g

pub run_step : (s : List ℕ) (d : Digits) (at i : ℕ) → i < 8 → at + 8 ≤ length s → run d (take (8 - i) (drop (at + i) s)) ≡ run (byte d (get_or s (at + i) 0)) (take (8 - (i + 1)) (drop (at + (i + 1)) s))
run_step s d at i lt le = run_cons s d (at + i) (at + (i + 1)) (8 - i) (8 - (i + 1)) (omega arith) (omega arith) (omega arith)

pub run-start : (s : List ℕ) (d : Digits) (at : ℕ) → run d (take (8 - 0) (drop (at + 0) s)) ≡ run d (take 8 (drop at s))
run-start s d at = ap (λ n. run d (take 8 (drop n s))) (let e : at + 0 ≡ at = omega arith in e)

pub run-done : (s : List ℕ) (d : Digits) (i : ℕ) → 8 ≤ i → run d (take (8 - i) s) ≡ d
unfolding run
run-done s d i le = ap (λ n. run d (take n s)) (let e : 8 - i ≡ 0 = omega arith in e)

-- ---- the number after i bytes is below 10 ^ i

below-digit : (k : ℕ) (neg : Bool) (v b : ℕ) → v < k → DigitsBelow (k * 10) (digit neg v b)
below-digit k neg v b lt = low (ltb b 48)
  where
    high : (t : Bool) → ltb 57 b ≡ t → DigitsBelow (k * 10) (cond t Broken (Run neg (v * 10 + (b - 48))))
    high true e = tt
    high false e = let h = ltb-false 57 b e in omega arith

    low : (t : Bool) → DigitsBelow (k * 10) (cond t Broken (cond (ltb 57 b) Broken (Run neg (v * 10 + (b - 48)))))
    low true = tt
    low false = high (ltb 57 b) refl

below-if : (k : ℕ) (t : Bool) (x y : Digits) → DigitsBelow k x → DigitsBelow k y → DigitsBelow k (cond t x y)
below-if k true x y p q = p
below-if k false x y p q = q

below-byte : (k : ℕ) (d : Digits) (b : ℕ) → 0 < k → DigitsBelow k d → DigitsBelow (k * 10) (byte d b)
below-byte k Blank b lt h = below-if (k * 10) (eqb b 32) Blank _ tt (below-if (k * 10) (eqb b 45) Minus _ tt (below-digit k false 0 b lt))
below-byte k Minus b lt h = below-if (k * 10) (eqb b 48) Broken _ tt (below-digit k true 0 b lt)
below-byte k (Run neg v) b lt h = below-if (k * 10) (eqb v 0) Broken _ tt (below-digit k neg v b h)
below-byte k Broken b lt h = tt

pub below_next : (i : ℕ) (d : Digits) (b : ℕ) → DigitsBelow (10 ^ i) d → DigitsBelow (10 ^ (i + 1)) (byte d b)
below_next i d b h = subst (λ k. DigitsBelow k (byte d b)) (sym (ap (λ n. 10 ^ n) (add-one i) ∙ pow-suc 10 i)) (below-byte (10 ^ i) d b (ten-pos i) h)

pub below-eight : (i : ℕ) (d : Digits) → i ≤ 8 → DigitsBelow (10 ^ i) d → DigitsBelow field_end d
below-eight i Blank le h = tt
below-eight i Minus le h = tt
below-eight i (Run neg v) le h = let p : 10 ^ i ≤ 10 ^ 8 = pow-le-pow_right {n = 10} (omega arith) {i = i} {j = 8} (omega arith) in omega arith
below-eight i Broken le h = tt

-- ---- writing: the digits stand from column k on, the columns before it are blank

put : (x b : List ℕ) (j d : ℕ) → j < length b → (x ++ (d ∷ [])) ++ drop (suc j) b ≡ x ++ drop j (set b j d)
put x b j d lt = append_snoc x d (drop (suc j) b) ∙ ap (λ t. x ++ t) (sym (ap (drop j) (set_split b j d lt) ∙ drop_at (take j b) (d ∷ drop (suc j) b) j (length-take-le j b (omega arith))))

-- the first digit
pub first-digit : (b : List ℕ) (k : ℕ) (neg : Bool) (v : ℕ) → 0 < k → k ≤ length b → v < 10 → decimal k neg v ++ drop k b ≡ lead (k - 1) neg ++ drop (k - 1) (set b (k - 1) (48 + v % 10))
unfolding decimal
first-digit b zero neg v lt le h = elim lt [ ]
first-digit b (suc j) neg v lt le h = rw (let e : suc j - 1 ≡ j = omega arith in e) (rw (lt-ltb v 10 h) (put (lead j neg) b j (48 + v % 10) (omega arith)))

-- any other
pub more-digits : (b : List ℕ) (k : ℕ) (neg : Bool) (v : ℕ) → 0 < k → k ≤ length b → 10 ≤ v → decimal k neg v ++ drop k b ≡ decimal (k - 1) neg (v / 10) ++ drop (k - 1) (set b (k - 1) (48 + v % 10))
unfolding decimal
more-digits b zero neg v lt le h = elim lt [ ]
more-digits b (suc j) neg v lt le h = rw (let e : suc j - 1 ≡ j = omega arith in e) (rw (le-ltb v 10 h) (put (decimal j neg (v / 10)) b j (48 + v % 10) (omega arith)))

-- no column is left
pub written : (b x : List ℕ) (k : ℕ) (neg : Bool) (v : ℕ) → k ≤ 0 → decimal k neg v ++ drop k b ≡ x → b ≡ x
unfolding decimal
written b x zero neg v le e = e
written b x (suc k) neg v le e = absurd (omega arith)

-- ---- before the digits

take-blanks : (j : ℕ) → take j (blanks (suc j)) ≡ blanks j
take-blanks zero = refl
take-blanks (suc j) = ap (λ t. 32 ∷ t) (take-blanks j)

blank-before : (b : List ℕ) (j : ℕ) → take (suc j) b ≡ blanks (suc j) → take j b ≡ blanks j
blank-before b j e = sym (take-take j (suc j) b (omega arith)) ∙ ap (take j) e ∙ take-blanks j

-- the columns before a digit that was put
pub still-blank : (b : List ℕ) (k d : ℕ) → 0 < k → take k b ≡ replicate k 32 → take (k - 1) (set b (k - 1) d) ≡ replicate (k - 1) 32
still-blank b zero d lt e = elim lt [ ]
still-blank b (suc j) d lt e =
    rw (let f : suc j - 1 ≡ j = omega arith in f) (take-set-le j b j d (omega arith) ∙ blank-before b j e)

-- no sign, or no column for it
pub unsigned_lead : (b : List ℕ) (k : ℕ) → take k b ≡ replicate k 32 → b ≡ lead k false ++ drop k b
unsigned_lead b k e = sym (take-append-drop k b) ∙ ap (λ t. t ++ drop k b) (e ∙ lead-blank k)

pub no_lead : (b : List ℕ) (k : ℕ) (neg : Bool) → k ≤ 0 → b ≡ lead k neg ++ drop k b
no_lead b zero neg le = refl
no_lead b (suc k) neg le = absurd (omega arith)

pub minus-lead : (b : List ℕ) (k : ℕ) → 0 < k → k ≤ length b → take k b ≡ replicate k 32 → set b (k - 1) 45 ≡ lead k true ++ drop k b
minus-lead b zero lt le e = elim lt [ ]
minus-lead b (suc j) lt le e =
    ap (λ n. set b n 45) (let g : suc j - 1 ≡ j = omega arith in g)
    ∙ set_split b j 45 (omega arith)
    ∙ ap (λ t. t ++ (45 ∷ drop (suc j) b)) (blank-before b j e)
    ∙ sym (append_snoc (blanks j) 45 (drop (suc j) b))

-- ---- a place of the sheet's bytes

pub outside : (s : List ℕ) (at : ℕ) → length s < at + 8 → Malformed ≡ field_at s at
outside s at lt = rw (lt-leb (at + 8) (length s) lt)

pub inside : (s : List ℕ) (at : ℕ) → at + 8 ≤ length s → field_of (take 8 (drop at s)) ≡ field_at s at
inside s at le = rw (le-leb (at + 8) (length s) le)

-- ---- signed numbers

pub negated : (v : ℕ) → pos 0 -ℤ pos v ≡ minus v
negated zero = refl
negated (suc n) = rw (lt-ltb 0 (suc n) (omega arith)) (ap negsuc (let e : suc n - 1 ≡ n = omega arith in e))

pub minus-fits : (v : ℕ) → v < field_end → SFits w32 (minus v)
minus-fits zero lt = record { sfits = omega arith }
minus-fits (suc n) lt = record { sfits = omega arith }

-- a negative number and one more
pub record OneUp (z : ℤ) : Type 0 where
  pub fits : SFits w32 (z +ℤ pos 1)
  pub size : ℕ
  pub small : size < 2147483648
  pub up : pos 0 -ℤ (z +ℤ pos 1) ≡ pos size
  pub whole : size + 1 ≡ nat_abs z

pub one_up : (z : ℤ) → SFits w32 z → lt_z z (pos 0) ≡ true → OneUp z
one_up (pos n) h e = let f = ltb-true n 0 e in absurd (omega arith)
one_up (negsuc zero) h e = record { fits = record { sfits = omega arith }; size = 0; small = omega arith; up = refl; whole = refl }
one_up (negsuc (suc m)) h e =
    let g : negsuc (suc m) +ℤ pos 1 ≡ negsuc m = rw (lt-ltb 1 (suc (suc m)) (omega arith)) (ap negsuc (let d : suc (suc m) - 2 ≡ m = omega arith in d)) in
    let s = h.sfits in
    record {
      fits = subst (SFits w32) (sym g) (record { sfits = omega arith });
      size = suc m;
      small = omega arith;
      up = ap (λ x. pos 0 -ℤ x) g ∙ ap pos (let d : 0 + suc m ≡ suc m = omega arith in d);
      whole = omega arith;
    }

pub bytes-minus : (z : ℤ) → lt_z z (pos 0) ≡ true → decimal 8 true (nat_abs z) ≡ field_bytes z
bytes-minus (pos n) e = let f = ltb-true n 0 e in absurd (omega arith)
bytes-minus (negsuc n) e = refl

pub bytes-plain : (z : ℤ) → lt_z z (pos 0) ≡ false → decimal 8 false (nat_abs z) ≡ field_bytes z
bytes-plain (pos n) e = refl
bytes-plain (negsuc n) e = no_way (sym e)
