-- What is written is read back, part by part: a word or a number is one token, a number has its digits' value, a name is its relation's.
use mathlib.Core.Path.{◌≡◌, refl, sym, ap, ◌∙◌}
use mathlib.Core.Bool.{Bool, true, false, cond, ◌&&◌}
use mathlib.Core.List.{List, [], ◌∷◌, ◌++◌, append_assoc}
use mathlib.Core.Logic.{◌⊎◌, inl, inr, ⊎_elim}
use Prim.Native.Nat.{ℕ, zero, suc, ◌+◌, ◌-◌, ◌*◌, ◌/◌, ◌%◌, ◌≤◌, ◌<◌, min}
use native.Mathlib.Omega.{arith}
use lib.Dec.{eqb, ltb, leb}
use lib.IntN.{ℤ, pos}
use lib.ListN.{length, replicate, length-append}
use borrow.Author.Tests.{ne_eqb, lt-ltb, le-ltb, le-leb, lt-leb}
use Rattle.list_laws.proofs.Order.{less?}
use Rattle.sheet_format.specs.Limits.{field_end}
use Rattle.sheet_format.specs.Field.{lead, decimal, field_bytes}
use Rattle.sheet_format.proofs.Lists.{append-nil}
use Rattle.text_begins.specs.Begins.{is_blank_byte}
use Rattle.text_writer.specs.Texts.{without_blanks, word_bytes, relation_names, relation_bytes}
use Rattle.text_meaning.specs.Tokens.{token_kind, joins, word_goes_on, behind, tokens}
use Rattle.text_meaning.specs.Names.{are_same_bytes, number_longer, number_from, number_named, among, relation_named}

-- ---- tokens

-- the first of some bytes does not go on with a token of kind k
abbrev pub Stops : ℕ → List ℕ → Type 0
Stops k [] = Unit
Stops k (b ∷ s) = joins k (token_kind b) ≡ false

-- every byte goes on with a token of kind k
abbrev pub GoOn : ℕ → List ℕ → Type 0
GoOn k [] = Unit
GoOn k (b ∷ s) = (joins k (token_kind b) ≡ true) × GoOn k s

behind-word : (a : ℕ) (u w s : List ℕ) → GoOn (token_kind a) w → Stops (token_kind a) s → behind (a ∷ u) (w ++ s) ≡ (a ∷ (u ++ w)) ∷ tokens s
unfolding behind word_goes_on
behind-word a u [] [] h k = ap (λ x. (a ∷ x) ∷ []) (sym (append-nil u))
behind-word a u [] (b ∷ s) h k = rw k (ap (λ x. (a ∷ x) ∷ tokens (b ∷ s)) (sym (append-nil u)))
behind-word a u (b ∷ w) s h k = rw h.0 (behind-word a (u ++ (b ∷ [])) w s h.1 k ∙ ap (λ x. (a ∷ x) ∷ tokens s) (append_assoc u (b ∷ []) w))

-- bytes that go on with the first, before one that does not, are a token
pub token_back : (a : ℕ) (w s : List ℕ) → is_blank_byte a ≡ false → GoOn (token_kind a) w → Stops (token_kind a) s → tokens ((a ∷ w) ++ s) ≡ (a ∷ w) ∷ tokens s
unfolding behind word_goes_on
token_back a w s b h k = rw b (behind-word a [] w s h k)

-- ---- digits

abbrev pub Digits : List ℕ → Type 0
Digits [] = Unit
Digits (b ∷ s) = (48 ≤ b) × (b < 58) × Digits s

pub digit-kind : (b : ℕ) → 48 ≤ b → b < 58 → token_kind b ≡ 48
unfolding token_kind
digit-kind b l h = rw (lt-leb 97 b (omega arith), lt-leb 65 b (omega arith), le-leb 48 b l, le-leb b 57 (omega arith))

-- digits go on with a number
pub digits-go-on : (s : List ℕ) → Digits s → GoOn 48 s
unfolding joins
digits-go-on [] d = tt
digits-go-on (b ∷ s) d = (rw (digit-kind b d.0 d.1), digits-go-on s d.2)

-- and with a word
pub digits_in_word : (s : List ℕ) → Digits s → GoOn 65 s
unfolding joins
digits_in_word [] d = tt
digits_in_word (b ∷ s) d = (rw (digit-kind b d.0 d.1), digits_in_word s d.2)

digits_more : (s : List ℕ) (b : ℕ) → Digits s → 48 ≤ b → b < 58 → Digits (s ++ (b ∷ []))
digits_more [] b d l h = (l, h, tt)
digits_more (x ∷ s) b d l h = (d.0, d.1, digits_more s b d.2 l h)

number_more : (n : ℕ) (s : List ℕ) (b : ℕ) → number_from n (s ++ (b ∷ [])) ≡ number_longer (number_from n s) b
unfolding number_from
number_more n [] b = refl
number_more n (x ∷ s) b = number_more (number_longer n x) s b

last-digit : (n b : ℕ) → n < field_end / 10 → b < 10 → number_longer n (48 + b) ≡ n * 10 + b
unfolding number_longer
last-digit n b h l =
    let e : 48 + b - 48 ≡ b = omega arith in
    rw (le-leb 48 (48 + b) (omega arith), le-leb (48 + b) 57 (omega arith), lt-ltb n (field_end / 10) h, e)

-- ---- numbers

-- some digits that have the value v
pub record Shows (v : ℕ) (s : List ℕ) : Type 0 where
  pub digits : Digits s
  pub value : number_from 0 s ≡ v
  pub some : 0 < length s

lead-gone : (k : ℕ) → without_blanks (lead k false) ≡ []
unfolding without_blanks
lead-gone zero = refl
lead-gone (suc k) = by k
  where
    by : (k : ℕ) → without_blanks (replicate k 32 ++ (32 ∷ [])) ≡ []
    by zero = refl
    by (suc k) = by k

last-kept : (x : List ℕ) (d : ℕ) → (d ≡ 32 → ⊥) → without_blanks (x ++ (d ∷ [])) ≡ without_blanks x ++ (d ∷ [])
unfolding without_blanks
last-kept [] d h = rw (ne_eqb d 32 h)
last-kept (b ∷ x) d h = by (eqb b 32) (last-kept x d h)
  where
    by : (t : Bool) → without_blanks (x ++ (d ∷ [])) ≡ without_blanks x ++ (d ∷ []) → cond t (without_blanks (x ++ (d ∷ []))) (b ∷ without_blanks (x ++ (d ∷ []))) ≡ cond t (without_blanks x) (b ∷ without_blanks x) ++ (d ∷ [])
    by true e = e
    by false e = ap (λ r. b ∷ r) e

-- a number that k columns have room for
abbrev Short : ℕ → ℕ → Type 0
Short zero v = ⊥
Short (suc k) v = (v < 10) ⊎ ((10 ≤ v) × Short k (v / 10))

one_shows : (k v : ℕ) → v < 10 → Shows v (without_blanks (decimal (suc k) false v))
unfolding decimal number_from
one_shows k v l =
    let e : v % 10 ≡ v = omega arith in
    let w : without_blanks (decimal (suc k) false v) ≡ (48 + v) ∷ [] = rw (lt-ltb v 10 l, e) (last-kept (lead k false) (48 + v) (λ e. omega arith) ∙ rw (lead-gone k)) in
    let q = last-digit 0 v (omega arith) l in
    rw w (record { digits = (omega arith, omega arith, tt); value = q ∙ omega arith; some = omega arith })

more_shows : (k v : ℕ) → 10 ≤ v → v < field_end → Shows (v / 10) (without_blanks (decimal k false (v / 10))) → Shows v (without_blanks (decimal (suc k) false v))
unfolding decimal
more_shows k v l h r =
    let D = without_blanks (decimal k false (v / 10)) in
    let w : without_blanks (decimal (suc k) false v) ≡ D ++ ((48 + v % 10) ∷ []) = rw (le-ltb v 10 l) (last-kept (decimal k false (v / 10)) (48 + v % 10) (λ e. omega arith)) in
    let q = last-digit (v / 10) (v % 10) (omega arith) (omega arith) in
    let n : v / 10 * 10 + v % 10 ≡ v = omega arith in
    rw w (record {
      digits = digits_more D (48 + v % 10) r.digits (omega arith) (omega arith);
      value = number_more 0 D (48 + v % 10) ∙ ap (λ n. number_longer n (48 + v % 10)) r.value ∙ q ∙ n;
      some = rw (length-append D ((48 + v % 10) ∷ [])) (omega arith);
    })

decimal_shows : (k v : ℕ) → Short k v → v < field_end → Shows v (without_blanks (decimal k false v))
decimal_shows zero v s h = absurd s
decimal_shows (suc k) v s h = ⊎_elim (one_shows k v) (λ t. more_shows k v t.0 h (decimal_shows k (v / 10) t.1 (omega arith))) s

short : (k v : ℕ) → ((10 ≤ v) → Short k (v / 10)) → Short (suc k) v
short k v h = ⊎_elim inl (λ l. inr (l, h l)) (less? v 10)

-- a number below eight digits' end is written in digits that have its value
pub number_shows : (n : ℕ) → n < field_end → Shows n (word_bytes (pos n))
unfolding word_bytes
number_shows n h = decimal_shows 8 n
    (short 7 n (λ _. short 6 (n / 10) (λ _. short 5 (n / 10 / 10) (λ _. short 4 (n / 10 / 10 / 10) (λ _. short 3 (n / 10 / 10 / 10 / 10) (λ _. short 2 (n / 10 / 10 / 10 / 10 / 10) (λ _. short 1 (n / 10 / 10 / 10 / 10 / 10 / 10) (λ _. inl (omega arith))))))))) h

pub number-back : (n : ℕ) → n < field_end → number_named (word_bytes (pos n)) ≡ n
number-back n h = let e = (number_shows n h).value in rw e (omega arith)

-- ---- relations

-- a letter and digits are no name of the ten
no_name : (s : List ℕ) → Digits s → 0 < length s → among (82 ∷ s) 1 relation_names ≡ 0
unfolding among are_same_bytes
no_name [] d h = absurd (omega arith)
no_name (b ∷ s) d h = rw (ne_eqb b 111 (λ e. let l = d.1 in omega arith))

-- one beyond the ten is read by its number
pub far-back : (r : ℕ) → 10 < r → r < field_end → relation_named (82 ∷ word_bytes (pos r)) ≡ r
unfolding relation_named
far-back r l h =
    let n = number_shows r h in
    rw (no_name (word_bytes (pos r)) n.digits n.some, n.value, lt-ltb 10 r l, lt-ltb r field_end h)

-- each of the ten is read by the name that it is written with
pub relation-back : (r : ℕ) → 0 < r → r ≤ 10 → relation_named (relation_bytes r) ≡ r
unfolding relation_named relation_bytes among are_same_bytes
relation-back zero l h = absurd (omega arith)
relation-back (suc zero) l h = refl
relation-back (suc (suc zero)) l h = refl
relation-back (suc (suc (suc zero))) l h = refl
relation-back (suc (suc (suc (suc zero)))) l h = refl
relation-back (suc (suc (suc (suc (suc zero))))) l h = refl
relation-back (suc (suc (suc (suc (suc (suc zero)))))) l h = refl
relation-back (suc (suc (suc (suc (suc (suc (suc zero))))))) l h = refl
relation-back (suc (suc (suc (suc (suc (suc (suc (suc zero)))))))) l h = refl
relation-back (suc (suc (suc (suc (suc (suc (suc (suc (suc zero))))))))) l h = refl
relation-back (suc (suc (suc (suc (suc (suc (suc (suc (suc (suc zero)))))))))) l h = refl
relation-back (suc (suc (suc (suc (suc (suc (suc (suc (suc (suc (suc n))))))))))) l h = absurd (omega arith)
