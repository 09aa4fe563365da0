-- What stores of words do to the slots of a set.
use mathlib.Core.Path.{◌≡◌, refl, sym, ap, ◌∙◌}
use mathlib.Core.Bool.{Bool, true, false, not, ◌&&◌, ◌||◌, true≢false, or_comm, and-true, and-false}
use mathlib.Core.List.{List}
use Prim.Native.Nat.{ℕ, ◌+◌, ◌*◌, ◌/◌, ◌%◌, ◌^◌, ◌≤◌, ◌<◌}
use native.Mathlib.Decide.{ℕ_discrete, dec_lt}
use native.Mathlib.Omega.{arith}
use borrow.Author.Count.{below_more}
use borrow.Author.Tests.{eq-eqb, ne_eqb}
use lib.Bits.{bit_or}
use lib.Dec.{eqb}
use lib.ListN.{length, get_or, set, replicate, length-set, length-replicate, get_or-replicate}
use lib.Seq.{get_or-set_same, get_or-set_other}
use Rattle.list_laws.specs.Kept.{Filled}
use Rattle.list_laws.proofs.Lists.{inside}
use Rattle.search_slots.specs.Slots.{has_digit, full_word, word_less, set_word, in_set}
use Rattle.search_slots.specs.Slots.{EmptySet, SetPut, SetWith, SetWithout, SetJoined, SetLess, SetsMeet}
use Rattle.search_slots.proofs.Digits.{has_or, has-less, has-zero, has_bit, SharedDigit, shared_digit}
use Rattle.search_slots.proofs.Laws.{at-word, past}

-- a word that is there is what a read finds
pub read_word : (ws : List ℕ) (w : ℕ) → w < length ws → get_or ws w 0 ≡ set_word ws w
read_word ws w h = inside ws w 0 full_word h

pub zeros-empty : (n : ℕ) → EmptySet n (replicate n 0)
zeros-empty n = record {
  same = length-replicate n 0;
  each = λ k h. at-word (replicate n 0) k 0 (get_or-replicate n (k / 64) 0 full_word (omega arith)) ∙ has-zero (k % 64);
}

-- ---- all words, one after the other

module _ (old : List ℕ) (f : ℕ → ℕ) (ws : List ℕ) (n : ℕ) (le : length old ≤ n) (a : Filled full_word old ws 0 n f) where
  filled-has : (k : ℕ) → k < 64 * length old → in_set ws k ≡ has_digit (f (k / 64)) (k % 64)
  filled-has k h = at-word ws k (f (k / 64)) (a.each (k / 64) (omega arith) (omega arith))

pub filled_put : (old others ws : List ℕ) (n : ℕ) → length old ≤ n → Filled full_word old ws 0 n (λ w. set_word others w) → SetPut old others ws
filled_put old others ws n le a =
    record { same = a.kept.same; each = λ k h. filled-has old (λ w. set_word others w) ws n le a k h ∙ sym (at-word others k _ refl) }

pub filled-joined : (old others ws : List ℕ) (n : ℕ) → length old ≤ n
    → Filled full_word old ws 0 n (λ w. bit_or (set_word old w) (set_word others w)) → SetJoined old others ws
filled-joined old others ws n le a = record { same = a.kept.same; each = λ k. go k (dec_lt k (64 * length old)) }
  where
    go : (k : ℕ) → Dec (k < 64 * length old) → in_set ws k ≡ (in_set old k || in_set others k)
    go k (yes h) =
        filled-has old (λ w. bit_or (set_word old w) (set_word others w)) ws n le a k h ∙ has_or (set_word old (k / 64)) (set_word others (k / 64)) (k % 64)
        ∙ (λ i. sym (at-word old k _ refl) i || sym (at-word others k _ refl) i)
    go k (no h) = let s = a.kept.same in past ws k (omega arith) ∙ ap (λ (b : Bool). b || in_set others k) (sym (past old k (omega arith)))

pub filled-less : (old others ws : List ℕ) (n : ℕ) → length old ≤ n
    → Filled full_word old ws 0 n (λ w. word_less (set_word old w) (set_word others w)) → SetLess old others ws
filled-less old others ws n le a = record {
  same = a.kept.same;
  each = λ k h.
      filled-has old (λ w. word_less (set_word old w) (set_word others w)) ws n le a k h
      ∙ has-less (set_word old (k / 64)) (set_word others (k / 64)) (k % 64)
      ∙ (λ i. sym (at-word old k _ refl) i && not (sym (at-word others k _ refl) i));
}

-- ---- the word of one slot

-- slots of one word are told apart by their digits
same-digit : (k n : ℕ) → k / 64 ≡ n / 64 → eqb (k % 64) (n % 64) ≡ eqb k n
same-digit k n w = go (ℕ_discrete k n)
  where
    go : Dec (k ≡ n) → eqb (k % 64) (n % 64) ≡ eqb k n
    go (yes e) = eq-eqb (k % 64) (n % 64) (ap (λ (x : ℕ). x % 64) e) ∙ sym (eq-eqb k n e)
    go (no ne) = ne_eqb (k % 64) (n % 64) (λ e. ne (omega arith)) ∙ sym (ne_eqb k n ne)

module _ (ws : List ℕ) (n x : ℕ) (h : n / 64 < length ws) where
  in-word : (k : ℕ) → k / 64 ≡ n / 64 → in_set (set ws (n / 64) x) k ≡ has_digit x (k % 64)
  in-word k w = at-word (set ws (n / 64) x) k x (ap (set_word (set ws (n / 64) x)) w ∙ get_or-set_same ws (n / 64) x full_word h)

  out_of_word : (k : ℕ) → (k / 64 ≡ n / 64 → ⊥) → in_set (set ws (n / 64) x) k ≡ in_set ws k
  out_of_word k w = at-word (set ws (n / 64) x) k _ (get_or-set_other ws (n / 64) (k / 64) x full_word w) ∙ sym (at-word ws k _ refl)

  -- the word as it was
  was-word : (k : ℕ) → k / 64 ≡ n / 64 → has_digit (set_word ws (n / 64)) (k % 64) ≡ in_set ws k
  was-word k w = sym (at-word ws k _ (ap (set_word ws) w))

  bit_test : (k : ℕ) → k / 64 ≡ n / 64 → has_digit (2 ^ (n % 64)) (k % 64) ≡ eqb k n
  bit_test k w = has_bit (k % 64) (n % 64) ∙ same-digit k n w

  pub set_with : x ≡ bit_or (set_word ws (n / 64)) (2 ^ (n % 64)) → SetWith ws n (set ws (n / 64) x)
  set_with e = record { same = length-set ws (n / 64) x; each = λ k. go k (ℕ_discrete (k / 64) (n / 64)) }
    where
      go : (k : ℕ) → Dec (k / 64 ≡ n / 64) → in_set (set ws (n / 64) x) k ≡ (eqb k n || in_set ws k)
      go k (yes w) =
          in-word k w ∙ ap (λ (y : ℕ). has_digit y (k % 64)) e ∙ has_or (set_word ws (n / 64)) (2 ^ (n % 64)) (k % 64)
          ∙ (λ i. was-word k w i || bit_test k w i)
          ∙ or_comm (in_set ws k) (eqb k n)
      go k (no w) = out_of_word k w ∙ ap (λ (b : Bool). b || in_set ws k) (sym (ne_eqb k n (λ q. w (ap (λ (y : ℕ). y / 64) q))))

  pub set-without : x ≡ word_less (set_word ws (n / 64)) (2 ^ (n % 64)) → SetWithout ws n (set ws (n / 64) x)
  set-without e = record {
    same = length-set ws (n / 64) x;
    gone = λ l. digits n refl ∙ ap (λ (b : Bool). in_set ws n && not b) (eq-eqb n n refl) ∙ and-false (in_set ws n);
    rest = λ k ne. go k ne (ℕ_discrete (k / 64) (n / 64));
  }
    where
      digits : (k : ℕ) → k / 64 ≡ n / 64 → in_set (set ws (n / 64) x) k ≡ (in_set ws k && not (eqb k n))
      digits k w =
          in-word k w ∙ ap (λ (y : ℕ). has_digit y (k % 64)) e ∙ has-less (set_word ws (n / 64)) (2 ^ (n % 64)) (k % 64)
          ∙ (λ i. was-word k w i && not (bit_test k w i))

      go : (k : ℕ) → (k ≡ n → ⊥) → Dec (k / 64 ≡ n / 64) → in_set (set ws (n / 64) x) k ≡ in_set ws k
      go k ne (yes w) = digits k w ∙ ap (λ (b : Bool). in_set ws k && not b) (ne_eqb k n ne) ∙ and-true (in_set ws k)
      go k ne (no w) = out_of_word k w

-- a slot past the words, which no store can reach
pub past_with : (ws : List ℕ) (n : ℕ) → 64 * length ws ≤ n → SetWith ws n ws
past_with ws n ge = record { same = refl; each = λ k. go k (ℕ_discrete k n) }
  where
    go : (k : ℕ) → Dec (k ≡ n) → in_set ws k ≡ (eqb k n || in_set ws k)
    go k (yes q) = past ws k (omega arith) ∙ ap (λ (b : Bool). b || in_set ws k) (sym (eq-eqb k n q))
    go k (no q) = ap (λ (b : Bool). b || in_set ws k) (sym (ne_eqb k n q))

-- ---- slots of two sets

-- in the first n words they share no digit: taking those of b out leaves the words of a
pub record ApartTo (a b : List ℕ) (n : ℕ) : Type 0 where
  pub each : (w : ℕ) → w < n → word_less (set_word a w) (set_word b w) ≡ set_word a w

pub apart_none : (a b : List ℕ) → ApartTo a b 0
apart_none a b = record { each = λ w h. absurd (omega arith) }

-- a digit that stays where those of another are taken out is not one of them
stays : (p q : Bool) → (p && not q) ≡ p → p ≡ true → q ≡ false
stays p false e t = refl
stays p true e t = absurd (true≢false (sym t ∙ sym e ∙ and-false p))

pub apart-all : (a b : List ℕ) (n : ℕ) → length a ≤ n → ApartTo a b n → SetsMeet false a b
apart-all a b n le p = record { apart = λ q k h e. go k h e; some = λ q. absurd (true≢false (sym q)) }
  where
    go : (k : ℕ) → k < 64 * length a → in_set a k ≡ true → in_set b k ≡ false
    go k h e =
        let x = set_word a (k / 64) in
        let y = set_word b (k / 64) in
        at-word b k y refl
        ∙ stays (has_digit x (k % 64)) (has_digit y (k % 64))
        (sym (has-less x y (k % 64)) ∙ ap (λ (z : ℕ). has_digit z (k % 64)) (p.each (k / 64) (omega arith)))
        (sym (at-word a k x refl) ∙ e)

shared_slot : (a b : List ℕ) (n : ℕ) → n < length a → SharedDigit 64 (set_word a n) (set_word b n) → SetsMeet true a b
shared_slot a b n h s = record {
  apart = λ q. absurd (true≢false q);
  some = λ q. (64 * n + s.at, (let i = s.inside in omega arith), here a s.left, here b s.right);
}
  where
    here : (ws : List ℕ) → has_digit (set_word ws n) s.at ≡ true → in_set ws (64 * n + s.at) ≡ true
    here ws e =
        let i = s.inside in
        let word : (64 * n + s.at) / 64 ≡ n = omega arith in
        let digit : (64 * n + s.at) % 64 ≡ s.at = omega arith in
        at-word ws (64 * n + s.at) (set_word ws n) (ap (set_word ws) word) ∙ ap (has_digit (set_word ws n)) digit ∙ e

-- x, a word of a as it is read, without the digits of b
module _ (a b : List ℕ) (n x y r : ℕ) (h : n < length a) (p : x ≡ get_or a n 0) (q : y ≡ set_word b n) (e : r ≡ word_less x y) where
  of_words : word_less (set_word a n) (set_word b n) ≡ r
  of_words = (λ i. word_less (sym (p ∙ read_word a n h) i) (sym q i)) ∙ sym e

  pub apart_more : ApartTo a b n → r ≡ x → ApartTo a b (n + 1)
  apart_more t s = record { each = below_more _ n t.each (of_words ∙ s ∙ p ∙ read_word a n h) }

  pub sets-met : x < 2 ^ 64 → (r ≡ x → ⊥) → SetsMeet true a b
  sets-met fits ne =
      let w = p ∙ read_word a n h in
      shared_slot a b n h (shared_digit 64 (set_word a n) (set_word b n) (omega arith) (λ s. ne (sym of_words ∙ s ∙ sym w)))
