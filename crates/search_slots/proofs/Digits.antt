-- Tests of single digits: of words made from others, and of two words at once.
use mathlib.Core.Path.{◌≡◌, refl, sym, ap, ◌∙◌}
use mathlib.Core.Bool.{true, false, not, ◌&&◌, ◌||◌}
use mathlib.Core.Logic.{◌⊎◌, inl, inr}
use Prim.Native.Nat.{ℕ, zero, suc, ◌+◌, ◌-◌, ◌/◌, ◌%◌, ◌^◌, ◌<◌, max}
use native.Mathlib.Nat.{one-mul, mod-lt, mul-mod_left, div-eq_of_lt, div-one, pow-suc}
use native.Mathlib.Decide.{ℕ_discrete, dec_lt}
use native.Mathlib.Omega.{arith}
use lib.Dec.{eqb, lit<}
use lib.Arith.{digits_mod}
use lib.Pow.{pow_pos, pow-add, pow-lt, shl-shr, shr-shr, high, low, ones_split, ones_lt}
use lib.Bits.{bit_or, bit_xor, differ, or_step, xor_step, or_shr, xor_shr, xor_self}
use borrow.Author.Tests.{eq-eqb, ne_eqb}
use Rattle.search_slots.specs.Slots.{has_digit, full_word, word_less}

-- ---- one digit of each of two words

differ_lt : (x y : ℕ) → x < 2 → y < 2 → differ x y < 2
differ_lt zero y h l = l
differ_lt (suc x) zero h l = h
differ_lt (suc zero) (suc zero) h l = lit< tt
differ_lt (suc zero) (suc (suc y)) h l = absurd (omega arith)
differ_lt (suc (suc x)) (suc y) h l = absurd (omega arith)

or_test : (d e : ℕ) → d < 2 → e < 2 → eqb (max d e) 1 ≡ (eqb d 1 || eqb e 1)
or_test zero zero h l = refl
or_test zero (suc zero) h l = refl
or_test (suc zero) zero h l = refl
or_test (suc zero) (suc zero) h l = refl
or_test zero (suc (suc e)) h l = absurd (omega arith)
or_test (suc zero) (suc (suc e)) h l = absurd (omega arith)
or_test (suc (suc d)) e h l = absurd (omega arith)

less-test : (d e : ℕ) → d < 2 → e < 2 → eqb (differ (max d e) e) 1 ≡ (eqb d 1 && not (eqb e 1))
less-test zero zero h l = refl
less-test zero (suc zero) h l = refl
less-test (suc zero) zero h l = refl
less-test (suc zero) (suc zero) h l = refl
less-test zero (suc (suc e)) h l = absurd (omega arith)
less-test (suc zero) (suc (suc e)) h l = absurd (omega arith)
less-test (suc (suc d)) e h l = absurd (omega arith)

-- ---- the last digit of two words, and what is before it

odd_lt : (a : ℕ) → a % 2 < 2
odd_lt a = mod-lt a (lit< tt)

max_lt : (x y : ℕ) → x < 2 → y < 2 → max x y < 2
max_lt x y h l = omega arith

or_odd : (a b : ℕ) → bit_or a b % 2 ≡ max (a % 2) (b % 2)
or_odd a b = ap (λ (x : ℕ). x % 2) (or_step a b) ∙ digits_mod (bit_or (a / 2) (b / 2)) (max_lt (a % 2) (b % 2) (odd_lt a) (odd_lt b))

xor_odd : (a b : ℕ) → bit_xor a b % 2 ≡ differ (a % 2) (b % 2)
xor_odd a b = ap (λ (x : ℕ). x % 2) (xor_step a b) ∙ digits_mod (bit_xor (a / 2) (b / 2)) (differ_lt (a % 2) (b % 2) (odd_lt a) (odd_lt b))

less_odd : (a b : ℕ) → word_less a b % 2 ≡ differ (max (a % 2) (b % 2)) (b % 2)
less_odd a b = xor_odd (bit_or a b) b ∙ ap (λ (x : ℕ). differ x (b % 2)) (or_odd a b)

less_shr : (a b j : ℕ) → word_less a b / 2 ^ j ≡ word_less (a / 2 ^ j) (b / 2 ^ j)
less_shr a b j = xor_shr (bit_or a b) b j ∙ ap (λ (x : ℕ). bit_xor x (b / 2 ^ j)) (or_shr a b j)

-- ---- tests of digits

pub has_or : (a b j : ℕ) → has_digit (bit_or a b) j ≡ (has_digit a j || has_digit b j)
unfolding has_digit
has_or a b j =
    ap (λ (x : ℕ). eqb x 1) (ap (λ (x : ℕ). x % 2) (or_shr a b j) ∙ or_odd (a / 2 ^ j) (b / 2 ^ j))
    ∙ or_test (a / 2 ^ j % 2) (b / 2 ^ j % 2) (odd_lt (a / 2 ^ j)) (odd_lt (b / 2 ^ j))

pub has-less : (a b j : ℕ) → has_digit (word_less a b) j ≡ (has_digit a j && not (has_digit b j))
unfolding has_digit
has-less a b j =
    ap (λ (x : ℕ). eqb x 1) (ap (λ (x : ℕ). x % 2) (less_shr a b j) ∙ less_odd (a / 2 ^ j) (b / 2 ^ j))
    ∙ less-test (a / 2 ^ j % 2) (b / 2 ^ j % 2) (odd_lt (a / 2 ^ j)) (odd_lt (b / 2 ^ j))

pub has-zero : (j : ℕ) → has_digit 0 j ≡ false
unfolding has_digit
has-zero j = ap (λ (x : ℕ). eqb (x % 2) 1) (div-eq_of_lt (pow_pos j))

-- the word with one digit
bit_same : (j : ℕ) → 2 ^ j / 2 ^ j % 2 ≡ 1
bit_same j = ap (λ (x : ℕ). x / 2 ^ j % 2) (sym (one-mul (2 ^ j))) ∙ ap (λ (x : ℕ). x % 2) (shl-shr 1 j)

bit_above : (i j : ℕ) → j < i → 2 ^ j / 2 ^ i % 2 ≡ 0
bit_above i j h = ap (λ (x : ℕ). x % 2) (div-eq_of_lt (pow-lt h))

bit_below : (i n : ℕ) → 2 ^ (n + 1 + i) / 2 ^ i % 2 ≡ 0
bit_below i n =
    ap (λ (x : ℕ). x / 2 ^ i % 2) (pow-add 2 (n + 1) i) ∙ ap (λ (x : ℕ). x % 2) (shl-shr (2 ^ (n + 1)) i ∙ pow-add 2 n 1) ∙ mul-mod_left (2 ^ n) 2

bit_other : (i j : ℕ) → (i ≡ j → ⊥) → Dec (j < i) → 2 ^ j / 2 ^ i % 2 ≡ 0
bit_other i j ne (yes h) = bit_above i j h
bit_other i j ne (no h) = let e : j - i - 1 + 1 + i ≡ j = omega arith in ap (λ (x : ℕ). 2 ^ x / 2 ^ i % 2) (sym e) ∙ bit_below i (j - i - 1)

pub has_bit : (i j : ℕ) → has_digit (2 ^ j) i ≡ eqb i j
unfolding has_digit
has_bit i j = go (ℕ_discrete i j)
  where
    go : Dec (i ≡ j) → eqb (2 ^ j / 2 ^ i % 2) 1 ≡ eqb i j
    go (yes e) = ap (λ (x : ℕ). eqb (2 ^ j / 2 ^ x % 2) 1) e ∙ ap (λ (x : ℕ). eqb x 1) (bit_same j) ∙ sym (eq-eqb i j e)
    go (no ne) = ap (λ (x : ℕ). eqb x 1) (bit_other i j ne (dec_lt j i)) ∙ sym (ne_eqb i j ne)

-- the word with all digits
ones_odd : (n j : ℕ) → (2 ^ (n + 1 + j) - 1) / 2 ^ j % 2 ≡ 1
ones_odd n j =
    ap (λ (x : ℕ). x / 2 ^ j % 2) (ones_split (n + 1) j) ∙ ap (λ (x : ℕ). x % 2) (high (2 ^ (n + 1) - 1) j (ones_lt j) ∙ ones_split n 1)
    ∙ low (2 ^ n - 1) 1 (ones_lt 1)

pub has-full : (j : ℕ) → j < 64 → has_digit full_word j ≡ true
unfolding has_digit
has-full j h =
    let e : 63 - j + 1 + j ≡ 64 = omega arith in
    ap (λ (n : ℕ). eqb ((2 ^ n - 1) / 2 ^ j % 2) 1) (sym e) ∙ ap (λ (x : ℕ). eqb x 1) (ones_odd (63 - j) j)

-- ---- a digit that two words share

pub record SharedDigit (n x y : ℕ) : Type 0 where
  pub at : ℕ
  pub inside : at < n
  pub left : has_digit x at ≡ true
  pub right : has_digit y at ≡ true

-- two digits are both set, or the second changes nothing
less-digit : (d e : ℕ) → d < 2 → e < 2 → ((d ≡ 1) × (e ≡ 1)) ⊎ (differ (max d e) e ≡ d)
less-digit zero zero h l = inr refl
less-digit zero (suc zero) h l = inr refl
less-digit (suc zero) zero h l = inr refl
less-digit (suc zero) (suc zero) h l = inl (refl, refl)
less-digit zero (suc (suc e)) h l = absurd (omega arith)
less-digit (suc zero) (suc (suc e)) h l = absurd (omega arith)
less-digit (suc (suc d)) e h l = absurd (omega arith)

has_odd : (x : ℕ) → x % 2 ≡ 1 → has_digit x 0 ≡ true
unfolding has_digit
has_odd x e = ap (λ (z : ℕ). eqb (z % 2) 1) (div-one x) ∙ ap (λ (z : ℕ). eqb z 1) e

has_half : (x j : ℕ) → has_digit (x / 2) j ≡ true → has_digit x (1 + j) ≡ true
unfolding has_digit
has_half x j e = ap (λ (z : ℕ). eqb (z % 2) 1) (sym (shr-shr x 1 j)) ∙ e

-- where taking the digits of y out changes x, they share one
pub shared_digit : (n x y : ℕ) → x < 2 ^ n → (word_less x y ≡ x → ⊥) → SharedDigit n x y
shared_digit zero x y h ne = let z : x ≡ 0 = omega arith in absurd (ne (ap (λ (v : ℕ). word_less v y) z ∙ xor_self y ∙ sym z))
shared_digit (suc n) x y h ne =
    go (shared_digit n (x / 2) (y / 2) (omega (arith, pow-suc 2 n))) (less-digit (x % 2) (y % 2) (odd_lt x) (odd_lt y))
  where
    go : ((word_less (x / 2) (y / 2) ≡ x / 2 → ⊥) → SharedDigit n (x / 2) (y / 2))
        → ((x % 2 ≡ 1) × (y % 2 ≡ 1)) ⊎ (differ (max (x % 2) (y % 2)) (y % 2) ≡ x % 2) → SharedDigit (suc n) x y
    go before (inl (p, q)) = record { at = 0; inside = omega arith; left = has_odd x p; right = has_odd y q }
    go before (inr s) =
        let odd : word_less x y % 2 ≡ x % 2 = less_odd x y ∙ s in
        let half : word_less x y / 2 ≡ word_less (x / 2) (y / 2) = less_shr x y 1 in
        let r = before (λ e. ne (omega arith)) in
        record { at = 1 + r.at; inside = (let i = r.inside in omega arith); left = has_half x r.at r.left; right = has_half y r.at r.right }
