-- Numbers in decimal, and words one after the other.
use mathlib.Core.Path.{◌≡◌, refl, sym, ap, ◌∙◌}
use mathlib.Core.Bool.{Bool, true, false}
use mathlib.Core.List.{List, [], ◌∷◌, ◌++◌, append_assoc, append-nil}
use mathlib.Core.Logic.{⊎_elim}
use Prim.Native.Nat.{ℕ, zero, suc, ◌+◌, ◌/◌, ◌%◌, ◌≤◌, ◌<◌}
use native.Mathlib.Numerals.{add-one}
use native.Mathlib.Omega.{arith}
use lib.IntN.{ℤ, pos, negsuc}
use lib.Signed.{lt_z}
use lib.ListN.{length, get_or, take}
use lib.Seq.{take-suc, length-take-le}
use borrow.Author.Tests.{lt-ltb, le-ltb, eq-eqb, ne_eqb, ltb-true}
use Rattle.list_laws.proofs.Order.{less?}
use Rattle.test_results.specs.Results.{trailing_digits, decimal_digits, sign, word_decimal, closing, words_bytes, mark_byte}

one-digit : (k n : ℕ) → n < 10 → trailing_digits k n ≡ (48 + n) ∷ []
unfolding trailing_digits
one-digit zero n h = let m : n % 10 ≡ n = omega arith in rw m
one-digit (suc k) n h = rw (lt-ltb n 10 h)

more-digits : (k n : ℕ) → 10 ≤ n → trailing_digits (suc k) n ≡ trailing_digits k (n / 10) ++ ((48 + n % 10) ∷ [])
unfolding trailing_digits
more-digits k n h = rw (le-ltb n 10 h)

-- digits that there is room for are the same with any room
enough : (k j n : ℕ) → n ≤ k → n ≤ j → trailing_digits k n ≡ trailing_digits j n
enough zero j n h f = one-digit zero n (omega arith) ∙ sym (one-digit j n (omega arith))
enough (suc k) zero n h f = one-digit (suc k) n (omega arith) ∙ sym (one-digit zero n (omega arith))
enough (suc k) (suc j) n h f =
    ⊎_elim
    (λ lt. one-digit (suc k) n lt ∙ sym (one-digit (suc j) n lt))
    (λ le. more-digits k n le ∙ ap (λ s. s ++ ((48 + n % 10) ∷ [])) (enough k j (n / 10) (omega arith) (omega arith)) ∙ sym (more-digits j n le))
    (less? n 10)

-- a number of one digit, and of more: the digits of a tenth of it, and its last
pub decimal-one : (n : ℕ) → n < 10 → (48 + n) ∷ [] ≡ decimal_digits n
unfolding decimal_digits
decimal-one n h = sym (one-digit n n h)

pub decimal-more : (n : ℕ) → 10 ≤ n → decimal_digits (n / 10) ++ ((48 + n % 10) ∷ []) ≡ decimal_digits n
unfolding decimal_digits
decimal-more zero h = absurd (omega arith)
decimal-more (suc m) h =
    let n : ℕ = suc m in
    ap (λ s. s ++ ((48 + n % 10) ∷ [])) (enough (n / 10) m (n / 10) (omega arith) (omega arith)) ∙ sym (more-digits m n h)

-- "=" or "!"
pub marked-true : {t : Bool} → t ≡ true → 61 ≡ mark_byte t
unfolding mark_byte
marked-true e = rw e

pub marked-false : {t : Bool} → t ≡ false → 33 ≡ mark_byte t
unfolding mark_byte
marked-false e = rw e

-- the sign of a word below 0, and of any other
pub sign_below : (z : ℤ) → lt_z z (pos 0) ≡ true → sign z ≡ 45 ∷ []
unfolding sign
sign_below (pos n) e = let h = ltb-true n 0 e in absurd (omega arith)
sign_below (negsuc n) e = refl

pub sign_above : (z : ℤ) → lt_z z (pos 0) ≡ false → sign z ≡ []
unfolding sign
sign_above (pos n) e = refl
sign_above (negsuc n) e = let z : ◌≡◌ {A = ℕ} 0 1 = cc in absurd (omega arith)

-- the byte after a word where there is no unit, after a unit's last, and after any other
pub closing-none : (unit i : ℕ) → unit ≡ 0 → closing unit i ≡ 32
unfolding closing
closing-none unit i e = rw (eq-eqb unit 0 e)

pub closing_unit : (unit i : ℕ) → (unit ≡ 0 → ⊥) → i % unit ≡ 0 → closing unit i ≡ 47
unfolding closing
closing_unit unit i h e = rw (ne_eqb unit 0 h, eq-eqb (i % unit) 0 e)

pub closing-word : (unit i : ℕ) → (unit ≡ 0 → ⊥) → (i % unit ≡ 0 → ⊥) → closing unit i ≡ 32
unfolding closing
closing-word unit i h e = rw (ne_eqb unit 0 h, ne_eqb (i % unit) 0 e)

-- the words before one more
words_snoc : (unit i : ℕ) (l : List ℤ) (w : ℤ) → words_bytes unit i (l ++ (w ∷ [])) ≡ words_bytes unit i l ++ (word_decimal w ++ (closing unit (i + length l + 1) ∷ []))
unfolding words_bytes
words_snoc unit i [] w = let e : i + 0 + 1 ≡ i + 1 = omega arith in rw (e, append-nil)
words_snoc unit i (v ∷ l) w =
    let e : i + suc (length l) + 1 ≡ i + 1 + length l + 1 = omega arith in
    let x : List ℕ = word_decimal v ++ (closing unit (i + 1) ∷ []) in
    rw (e, words_snoc unit (i + 1) l w) (sym (append_assoc x (words_bytes unit (i + 1) l) (word_decimal w ++ (closing unit (i + 1 + length l + 1) ∷ []))))

-- one word more
pub words_more : (unit i : ℕ) (s : List ℤ) → i < length s → words_bytes unit 0 (take (i + 1) s) ≡ words_bytes unit 0 (take i s) ++ (word_decimal (get_or s i (pos 0)) ++ (closing unit (i + 1) ∷ []))
words_more unit i s h =
    let e : 0 + length (take i s) + 1 ≡ i + 1 = rw (length-take-le i s (omega arith)) (omega arith) in
    let w : ℤ = get_or s i (pos 0) in
    ap (words_bytes unit 0) (rw add-one (take-suc s i (pos 0) h)) ∙ words_snoc unit 0 (take i s) w ∙ (rw e)

pub words-none : (unit : ℕ) (s : List ℤ) → words_bytes unit 0 (take 0 s) ≡ []
unfolding words_bytes
words-none unit s = refl
