-- The words of a text.
use mathlib.Core.Path.{◌≡◌, refl, sym, ap, ◌∙◌}
use mathlib.Core.List.{List, [], ◌∷◌}
use Prim.Native.Nat.{ℕ, zero, suc, ◌+◌, ◌-◌, ◌%◌, ◌≤◌, ◌<◌}
use native.Mathlib.Omega.{arith}
use lib.IntN.{ℤ, pos, negsuc, neg_ℤ, ◌-ℤ◌, +ℤ_idl}
use lib.ListN.{length, get_or, take, drop, set, length-set, drop_of_length-le}
use lib.Seq.{drop-cons, drop-drop, get_or-drop, set_out}
use borrow.Author.Tests.{lt-ltb, le-ltb, eq-eqb, ne_eqb}
use mir.Syntax.{w32}
use mir.Val.{to_z, of_z}
use mir.ValLaws.{to_z-of_z, to_z_pos}
use Rattle.list_laws.proofs.Words.{minus-fits}
use mathlib.Core.Logic.{⊎_elim}
use mir.Syntax.{w32}
use mir.Val.{SFits}
use Rattle.std.specs.Prelude.{Result, Ok, Err}
use Rattle.std.specs.Result.{OkIff, result_unwrap_or}
use Rattle.list_laws.proofs.Order.{less?}
use Rattle.test_words.specs.Words.{next_place, before_either, word_below_zero, above_of, rounded_by, first_put, Room, Stores, whole_of, word_of, words_put, words_read}
use Rattle.test_numbers.specs.Numbers.{number_of}

-- ---- a word

pub below-least : (n : ℕ) → n ≡ 2147483648 → negsuc 2147483647 ≡ word_below_zero n
unfolding word_below_zero
below-least n e = rw e

pub below-small : (n : ℕ) → n < 2147483648 → to_z w32 (of_z w32 (pos 0 -ℤ to_z w32 n)) ≡ word_below_zero n
unfolding word_below_zero
below-small n h = to_z-of_z w32 _ (minus-fits n h) ∙ (rw (to_z_pos w32 n h, le-ltb 2147483648 n (omega arith)) (+ℤ_idl (neg_ℤ (pos n))))

pub below_large : (n : ℕ) → 2147483648 < n → pos 0 ≡ word_below_zero n
unfolding word_below_zero
below_large n h = rw (lt-ltb 2147483648 n h)

pub above_large : (n : ℕ) → 2147483647 < n → pos 0 ≡ above_of n
unfolding above_of
above_large n h = rw (lt-ltb 2147483647 n h)

pub above-small : (n : ℕ) → n ≤ 2147483647 → pos n ≡ above_of n
unfolding above_of
above-small n h = rw (le-ltb 2147483647 n h)

-- a number as a word, where it is one
pub narrowed : {E : Type 0} (r : Result ℤ E) (n : ℕ) → OkIff r (SFits w32 (pos n)) (pos n) → result_unwrap_or r (pos 0) ≡ above_of n
narrowed (Ok x) n h = let k = h.0.sfits in h.1 ∙ above-small n (omega arith)
narrowed (Err e) n h =
    ⊎_elim (λ lt. absurd (h (record { sfits = lt }))) (λ le. above_large n (omega arith)) (less? n 2147483648)

pub word_none : (s : List ℕ) → length s ≡ 0 → pos 0 ≡ word_of s
unfolding word_of
word_none [] h = refl
word_none (b ∷ s) h = absurd (omega arith)

pub word_below : (s : List ℕ) → (length s ≡ 0 → ⊥) → get_or s 0 0 ≡ 45 → word_below_zero (number_of s) ≡ word_of s
unfolding word_of
word_below [] n e = absurd (n refl)
word_below (b ∷ s) n e = rw (eq-eqb b 45 e)

pub word-above : (s : List ℕ) → (length s ≡ 0 → ⊥) → (get_or s 0 0 ≡ 45 → ⊥) → above_of (number_of s) ≡ word_of s
unfolding word_of
word-above [] n e = absurd (n refl)
word-above (b ∷ s) n e = rw (ne_eqb b 45 e)

-- ---- its place

pub whole_no_unit : (unit n : ℕ) → unit < 1 → n ≡ whole_of unit n
unfolding whole_of
whole_no_unit unit n h = rw (lt-ltb unit 1 h)

pub whole_large_unit : (unit n : ℕ) → 10000 < unit → n ≡ whole_of unit n
unfolding whole_of
whole_large_unit unit n h = rw (le-ltb unit 1 (omega arith), lt-ltb 10000 unit h)

pub whole_large : (unit n : ℕ) → 1 ≤ unit → unit ≤ 10000 → 10000 < n → n ≡ whole_of unit n
unfolding whole_of
whole_large unit n u v h = rw (le-ltb unit 1 u, le-ltb 10000 unit v, lt-ltb 10000 n h)

pub whole_already : (unit n : ℕ) → 1 ≤ unit → unit ≤ 10000 → n ≤ 10000 → n % unit ≡ 0 → n ≡ whole_of unit n
unfolding whole_of
whole_already unit n u v h e = rw (le-ltb unit 1 u, le-ltb 10000 unit v, le-ltb 10000 n h, eq-eqb (n % unit) 0 e)

pub whole-next : (unit n : ℕ) → 1 ≤ unit → unit ≤ 10000 → n ≤ 10000 → (n % unit ≡ 0 → ⊥) → n + unit - n % unit ≡ whole_of unit n
unfolding whole_of
whole-next unit n u v h e = rw (le-ltb unit 1 u, le-ltb 10000 unit v, le-ltb 10000 n h, ne_eqb (n % unit) 0 e)

pub closed-by : (unit b n : ℕ) → b ≡ 47 → whole_of unit n ≡ rounded_by unit b n
unfolding rounded_by
closed-by unit b n e = rw (eq-eqb b 47 e)

pub closed-not : (unit b n : ℕ) → (b ≡ 47 → ⊥) → n ≡ rounded_by unit b n
unfolding rounded_by
closed-not unit b n e = rw (ne_eqb b 47 e)

pub stores_within : (l : List ℤ) (at : ℕ) (w : ℤ) → at < length l → Stores l (set l at w) at w (at + 1)
unfolding next_place
stores_within l at w h = record { words = refl; next = rw (lt-ltb at (length l) h) }

pub stores_beyond : (l : List ℤ) (at : ℕ) (w : ℤ) → length l ≤ at → Stores l l at w at
unfolding next_place
stores_beyond l at w h = record { words = sym (set_out l at w h); next = rw (le-ltb at (length l) h) }

-- ---- one word after the other

-- the words up to place i of a text are put, and what is left gives what the whole text gives
pub record WordsSoFar (unit : ℕ) (text : List ℕ) (old new : List ℤ) (n i : ℕ) : Type 0 where
  pub kept : length new ≡ length old
  pub fuel : ℕ
  pub enough : length text ≤ fuel + i
  pub same : words_put fuel unit (drop i text) (record { words = new; next = n }) ≡ words_read unit text old

pub going_none : (unit : ℕ) (text : List ℕ) (out : List ℤ) → WordsSoFar unit text out out 0 0
unfolding words_read
going_none unit text out = record { kept = refl; fuel = length text; enough = omega arith; same = refl }

some_word : (k unit : ℕ) (s : List ℕ) (x : ℕ) (t : List ℕ) (r : Room) → s ≡ x ∷ t → words_put (suc k) unit s r ≡ words_put k unit (drop (before_either 32 47 s) t) (first_put unit s (before_either 32 47 s) r)
unfolding words_put
some_word k unit s x t r e = rw e

first_word : (k unit : ℕ) (text : List ℕ) (i : ℕ) (r : Room) → i < length text
    → words_put (suc k) unit (drop i text) r ≡ words_put k unit (drop (i + before_either 32 47 (drop i text) + 1) text) (first_put unit (drop i text) (before_either 32 47 (drop i text)) r)
first_word k unit text i r h =
    let x : ℕ = before_either 32 47 (drop i text) in
    let e : i + x + 1 ≡ suc i + x = omega arith in
    some_word k unit (drop i text) (get_or text i 0) (drop (suc i) text) r (drop-cons text i 0 h) ∙ (rw (drop-drop x (suc i) text, e))

room-same : {a b : List ℤ} {m n : ℕ} → a ≡ b → m ≡ n → ◌≡◌ {A = Room} (record { words = a; next = m }) (record { words = b; next = n })
room-same e f = rw (e, f)

first-put : (unit : ℕ) (text : List ℕ) (i x : ℕ) {b c : List ℤ} {n m p : ℕ} {w : ℤ} → w ≡ word_of (take x (drop i text)) → Stores b c n w m
    → p ≡ rounded_by unit (get_or text (i + x) 0) m → first_put unit (drop i text) x (record { words = b; next = n }) ≡ record { words = c; next = p }
unfolding first_put
first-put unit text i x {b} {c} {n} {m} {p} we st pe =
    room-same (rw (← we) (sym st.words)) (rw (get_or-drop i text x 0, ← st.next) (sym pe))

going_by : {unit : ℕ} {text : List ℕ} {a b c : List ℤ} {n m i p : ℕ} {w : ℤ} (k : ℕ) → i < length text → length b ≡ length a → length text ≤ k + i
    → words_put k unit (drop i text) (record { words = b; next = n }) ≡ words_read unit text a
    → w ≡ word_of (take (before_either 32 47 (drop i text)) (drop i text)) → Stores b c n w m → p ≡ rounded_by unit (get_or text (i + before_either 32 47 (drop i text)) 0) m
    → WordsSoFar unit text a c p (i + before_either 32 47 (drop i text) + 1)
going_by zero h l g s we st pe = absurd (omega arith)
going_by {unit} {text} {a} {b} {c} {n} {m} {i} {p} {w} (suc k) h l g s we st pe =
    record {
      kept = ap length st.words ∙ length-set b n w ∙ l;
      fuel = k;
      enough = omega arith;
      same = rw (← first-put unit text i (before_either 32 47 (drop i text)) we st pe) (sym (first_word k unit text i (record { words = b; next = n }) h) ∙ s);
    }

-- one word more is put
pub going_more : {unit : ℕ} {text : List ℕ} {a b c : List ℤ} {n m i e p : ℕ} {w : ℤ} → i < length text → WordsSoFar unit text a b n i
    → e ≡ i + before_either 32 47 (drop i text) → w ≡ word_of (take (e - i) (drop i text)) → Stores b c n w m → p ≡ rounded_by unit (get_or text e 0) m
    → WordsSoFar unit text a c p (e + 1)
going_more {unit} {text} {a} {b} {c} {n} {m} {i} {e} {p} {w} h g q we st pe =
    let f : e - i ≡ before_either 32 47 (drop i text) = omega arith in
    rw q (going_by g.fuel h g.kept g.enough g.same (rw f at we) st (rw q at pe))

ended : (k unit : ℕ) (r : Room) → words_put k unit [] r ≡ r
unfolding words_put
ended zero unit r = refl
ended (suc k) unit r = refl

-- all words are put
pub going_all : {unit : ℕ} {text : List ℕ} {a b : List ℤ} {n i : ℕ} → length text ≤ i → WordsSoFar unit text a b n i → record { words = b; next = n } ≡ words_read unit text a
going_all {unit} {text} {a} {b} {n} {i} h g =
    let d : drop i text ≡ [] = drop_of_length-le text h in
    let r : Room = record { words = b; next = n } in
    sym (ended g.fuel unit r) ∙ (rw d at g.same)
