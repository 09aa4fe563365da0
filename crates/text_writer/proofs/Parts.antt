-- Laws of parts: bytes without blanks, separated parts, groups of words.
use mathlib.Core.Path.{◌≡◌, refl, sym, ap, ◌∙◌}
use mathlib.Core.Bool.{Bool, true, false, cond}
use mathlib.Core.List.{List, [], ◌∷◌, ◌++◌, map, append_assoc}
use mathlib.Core.Logic.{◌⊎◌, inl, inr, ⊎_elim}
use Rattle.std.specs.Simd.{first_chunks}
use Rattle.std.proofs.lemmas.Bool.{cases_lt}
use Rattle.std.proofs.lemmas.List.{get_or_default}
use Prim.Native.Nat.{ℕ, zero, suc, ◌+◌, ◌-◌, ◌*◌, ◌/◌, min, max, ◌≤◌, ◌<◌}
use native.Mathlib.Omega.{arith}
use native.Mathlib.Numerals.{add-one}
use native.Mathlib.Nat.{suc-mul, eq-or-lt_of_le}
use lib.Dec.{eqb, ltb}
use lib.IntN.{ℤ, pos}
use lib.ListN.{length, get_or, take, drop, length-drop, length-map, get_or-eq_default}
use lib.Seq.{get_or-take, get_or-drop, take-suc, take_all, drop-drop, length-take-le}
use mir.Syntax.{w32}
use mir.Val.{to_z}
use mir.ValLaws.{to_z_pos}
use borrow.Author.Tests.{eq-eqb, ne_eqb, lt-ltb, le-ltb}
use Rattle.sheet_format.specs.Limits.{field_end}
use Rattle.sheet_format.specs.Line.{natural}
use Rattle.sheet_format.specs.Cause.{term_of}
use Rattle.sheet_format.specs.Table.{Table, columns_of, ten}
use Rattle.sheet_format.specs.Answers.{FieldTerm}
use Rattle.sheet_format.specs.Answers.FieldTerm.{Constant, Variable, OutOfRange}
use Rattle.sheet_format.proofs.Lists.{append-nil, map_append}
use Rattle.text_buffer.specs.Puts.{Put}
use Rattle.text_buffer.specs.Words.{bytes}
use Rattle.text_buffer.proofs.Laws.{followed}
use Rattle.text_writer.specs.Texts.{without_blanks, following, separated, groups, nth_text, word_bytes, number_bytes, variable_letter, term_as, term_bytes, terms_bytes, relation_names, name_bytes, relation_bytes, fact_bytes, small, line_kind, line_terms, count_bytes, columns_bytes}

-- ---- without blanks

plain_step : (t : Bool) (b : ℕ) (s r : List ℕ) → cond t (s ++ r) (b ∷ (s ++ r)) ≡ cond t s (b ∷ s) ++ r
plain_step true b s r = refl
plain_step false b s r = refl

plain_append : (s r : List ℕ) → without_blanks (s ++ r) ≡ without_blanks s ++ without_blanks r
unfolding without_blanks
plain_append [] r = refl
plain_append (b ∷ s) r = rw (plain_append s r) (plain_step (eqb b 32) b (without_blanks s) (without_blanks r))

-- one byte more, where it is no blank
pub more-plain : {a b c : List ℕ} {at n m : ℕ} (s : List ℕ) (i : ℕ) → i < length s → Put a b at (without_blanks (take i s)) n → Put b c n (without_blanks (get_or s i 0 ∷ [])) m → Put a c at (without_blanks (take (i + 1) s)) m
more-plain s i h p q = rw (add-one, take-suc s i 0 h, plain_append) (followed p q)

-- ---- separated parts

module _ (sep : List ℕ) where
  following-end : (xs : List (List ℕ)) (y : List ℕ) → following sep (xs ++ (y ∷ [])) ≡ following sep xs ++ (sep ++ y)
  unfolding following
  following-end [] y = append-nil (sep ++ y)
  following-end (x ∷ xs) y = rw (following-end xs y) (sym (append_assoc (sep ++ x) (following sep xs) (sep ++ y)))

  separated-end : (xs : List (List ℕ)) (y : List ℕ) (i : ℕ) → length xs ≡ i → separated sep (xs ++ (y ∷ [])) ≡ separated sep xs ++ cond (eqb i 0) y (sep ++ y)
  unfolding separated following
  separated-end [] y i e = rw (← e) (append-nil y)
  separated-end (x ∷ xs) y i e = rw (ne_eqb i 0 (λ z. omega arith), following-end xs y) (sym (append_assoc x (following sep xs) (sep ++ y)))

-- one part more, after a separator where it is not the first
pub more-separated : {A : Type 0} {a b c : List ℕ} {at n m : ℕ} (f : A → List ℕ) (sep : List ℕ) (d : A) (ls : List A) (i : ℕ)
    → i < length ls
    → Put a b at (separated sep (map f (take i ls))) n
    → Put b c n (cond (eqb i 0) (f (get_or ls i d)) (sep ++ f (get_or ls i d))) m
    → Put a c at (separated sep (map f (take (i + 1) ls))) m
more-separated f sep d ls i h p q =
    let k : length (map f (take i ls)) ≡ i = length-map (take i ls) f ∙ length-take-le i ls (omega arith) in
    rw (add-one, take-suc ls i d h, map_append, separated-end sep (map f (take i ls)) (f (get_or ls i d)) i k) (followed p q)

-- ---- groups of words

pub groups-length : (k n : ℕ) (ws : List ℤ) → length (groups k n ws) ≡ n
unfolding groups
groups-length k zero ws = refl
groups-length k (suc n) ws = ap suc (groups-length k n (drop k ws))

pub groups-at : (k n : ℕ) (ws : List ℤ) (i : ℕ) → i < n → get_or (groups k n ws) i [] ≡ take k (drop (i * k) ws)
unfolding groups
groups-at k zero ws i h = absurd (omega arith)
groups-at k (suc n) ws zero h = let e : 0 * k ≡ 0 = omega arith in rw e
groups-at k (suc n) ws (suc i) h =
    let e : suc i * k ≡ k + i * k = suc-mul i k ∙ omega arith in
    groups-at k n (drop k ws) i (omega arith) ∙ rw (e, drop-drop (i * k) k ws)

-- the first of them
pub take-groups : (k m n : ℕ) (ws : List ℤ) → n ≤ m → take n (groups k m ws) ≡ groups k n ws
unfolding groups
take-groups k m zero ws h = refl
take-groups k zero (suc n) ws h = absurd (omega arith)
take-groups k (suc m) (suc n) ws h = ap (λ l. take k ws ∷ l) (take-groups k m n (drop k ws) (omega arith))

-- a slice as arrays of k words
pub chunks-groups : (k n : ℕ) (ws : List ℤ) → first_chunks k n ws ≡ groups k n ws
unfolding groups
chunks-groups k zero ws = refl
chunks-groups k (suc n) ws = ap (λ l. take k ws ∷ l) (chunks-groups k n (drop k ws))

-- k words from a place on, cut out by that place and the one after them
pub part_of : (x k : ℕ) (ws : List ℤ) → take (x + k - x) (drop x ws) ≡ take k (drop x ws)
part_of x k ws = let e : x + k - x ≡ k = omega arith in rw e

-- ---- the rest of what is counted

pub take-least : {A : Type 0} (k : ℕ) (l : List A) → take (min k (length l)) l ≡ take k l
take-least k [] = take_all (min k 0) [] (omega arith) ∙ sym (take_all k [] (omega arith))
take-least zero (x ∷ l) = let e : min 0 (suc (length l)) ≡ 0 = omega arith in rw e
take-least (suc k) (x ∷ l) = let e : min (suc k) (suc (length l)) ≡ suc (min k (length l)) = omega arith in rw e (ap (λ r. x ∷ r) (take-least k l))

-- ---- relations

-- ---- a byte

pub blank-gone : {b : ℕ} → b ≡ 32 → [] ≡ without_blanks (b ∷ [])
unfolding without_blanks
blank-gone e = rw e

pub byte-kept : {b : ℕ} → (b ≡ 32 → ⊥) → b ∷ [] ≡ without_blanks (b ∷ [])
unfolding without_blanks
byte-kept {b} n = rw (ne_eqb b 32 n)

-- ---- cases

-- the first of two where a number is another, the second where it is not
pub where_is : {A : Type 0} {n k : ℕ} {x : A} (y : A) → n ≡ k → x ≡ cond (eqb n k) x y
where_is {n = n} {k = k} y e = rw (eq-eqb n k e)

pub unless_is : {A : Type 0} {n k : ℕ} {y : A} (x : A) → (n ≡ k → ⊥) → y ≡ cond (eqb n k) x y
unless_is {n = n} {k = k} x h = rw (ne_eqb n k h)

-- and where it is below another, or not
pub where_below : {A : Type 0} {n k : ℕ} {x : A} (y : A) → n < k → x ≡ cond (ltb n k) x y
where_below {n = n} {k = k} y h = rw (lt-ltb n k h)

pub unless_below : {A : Type 0} {n k : ℕ} {y : A} (x : A) → k ≤ n → y ≡ cond (ltb n k) x y
unless_below {n = n} {k = k} x h = rw (le-ltb n k h)

-- what is given of a number that is known
pub known : {n k : ℕ} (f : ℕ → List ℕ) → n ≡ k → f k ≡ f n
known f e = sym (ap f e)

-- the text of a number that has none in the list
pub numbered-else : (texts : List (List ℕ)) (other : List ℕ) (n : ℕ) → ((n ≡ 0 → ⊥) → length texts < n) → other ≡ nth_text texts other n
numbered-else texts other zero h = refl
numbered-else texts other (suc n) h = let l = h (λ e. omega arith) in sym (get_or-eq_default texts other (omega arith))

-- the next number after one that it is not
pub apart : {n k : ℕ} → k ≤ n → (n ≡ k → ⊥) → k + 1 ≤ n
apart {n} {k} l h = ⊎_elim (λ e. absurd (h (sym e))) (λ b. omega arith) (eq-or-lt_of_le l)

-- ---- numbers and terms

pub word_of : {n : ℕ} → n < field_end → word_bytes (to_z w32 n) ≡ number_bytes n
word_of {n} h = rw (to_z_pos w32 n (omega arith), lt-ltb n field_end h)

pub no_number : {n : ℕ} → field_end ≤ n → [] ≡ number_bytes n
no_number {n} h = rw (le-ltb n field_end h)

pub letter_at : (i : ℕ) → 96 + max 1 (min i 26) ≡ variable_letter i
unfolding variable_letter
letter_at i = by (cases_lt i 1) (cases_lt 26 i)
  where
    by : (i < 1) ⊎ (1 ≤ i) → (26 < i) ⊎ (i ≤ 26) → 96 + max 1 (min i 26) ≡ cond (ltb i 1) 97 (cond (ltb 26 i) (96 + 26) (96 + i))
    by (inl h) k = rw (lt-ltb i 1 h) (omega arith)
    by (inr h) (inl l) = rw (le-ltb i 1 h, lt-ltb 26 i l) (omega arith)
    by (inr h) (inr l) = rw (le-ltb i 1 h, le-ltb 26 i l) (omega arith)

pub term-variable : {t : FieldTerm} {i v : ℕ} (w : ℤ) → t ≡ term_of w → t ≡ Variable i → v ≡ variable_letter i → v ∷ [] ≡ term_bytes w
unfolding term_bytes
term-variable w e f g = ap (λ x. x ∷ []) g ∙ ap (λ x. term_as x w) (sym f ∙ e)

pub term-constant : {t : FieldTerm} {n : ℕ} (w : ℤ) → t ≡ term_of w → t ≡ Constant n → word_bytes w ≡ term_bytes w
unfolding term_bytes
term-constant w e f = ap (λ x. term_as x w) (sym f ∙ e)

pub term-other : {t : FieldTerm} (w : ℤ) → t ≡ term_of w → t ≡ OutOfRange → word_bytes w ≡ term_bytes w
unfolding term_bytes
term-other w e f = ap (λ x. term_as x w) (sym f ∙ e)

-- ---- relations and facts

pub name-is : (r : ℕ) → r ≤ 10 → name_bytes r ≡ relation_bytes r
unfolding relation_bytes
name-is zero h = refl
name-is (suc n) h = get_or_default relation_names n [] (bytes "R" ++ number_bytes (suc n)) (omega arith)

pub far-relation : (n : ℕ) → 10 < n → bytes "R" ++ number_bytes n ≡ relation_bytes n
unfolding relation_bytes
far-relation zero h = absurd (omega arith)
far-relation (suc m) h = sym (get_or-eq_default relation_names (bytes "R" ++ number_bytes (suc m)) {n = m} (omega arith))

pub no-columns : {n : ℕ} → 10 < n → [] ≡ columns_bytes n
unfolding columns_bytes
no-columns {n} h = rw (lt-ltb 10 n h)

pub some-columns : {n k : ℕ} {t : Table} → t ≡ ten → n ≤ 10 → k ≡ columns_of t (to_z w32 n) → count_bytes k ++ relation_bytes n ≡ columns_bytes n
unfolding columns_bytes
some-columns {n} {k} own h e =
    let f : k ≡ columns_of ten (pos n) = rw (own, to_z_pos w32 n (omega arith)) at e in
    rw (le-ltb 10 n h, f)

pub fact-parts : (table : Table) {m k : ℕ} (ws : List ℤ) (j : ℕ)
    → length ws ≡ 5
    → m ≡ natural (get_or ws 0 (pos 0))
    → k ≡ columns_of table (get_or ws 0 (pos 0))
    → j ≡ min k 4
    → relation_bytes m ++ terms_bytes (take (1 + j - 1) (drop 1 ws)) ≡ fact_bytes table ws
unfolding fact_bytes
fact-parts table {m} {k} ws j n e f g =
    let q : 1 + j - 1 ≡ j = omega arith in
    let d : length (drop 1 ws) ≡ 4 = length-drop 1 ws ∙ rw n in
    let t : take j (drop 1 ws) ≡ take k (drop 1 ws) = rw (g, ← d) (take-least k (drop 1 ws)) in
    rw (q, t, ← e, ← f)

-- ---- words of a line

pub small-none : {n m : ℕ} → n ≡ m → 6 < n → 0 ≡ cond (ltb 6 m) 0 m
small-none {n} {m} e h = rw (lt-ltb 6 m (omega arith))

pub small-some : {n m : ℕ} → n ≡ m → n ≤ 6 → n ≡ cond (ltb 6 m) 0 m
small-some {n} {m} e h = rw (le-ltb 6 m (omega arith)) e

pub kind-here : {r i : ℕ} (ws : List ℤ) → i < length ws / 7 → r ≡ small (get_or ws (i * 7 + 1) (pos 0)) → r ≡ cond (ltb i (length ws / 7)) (line_kind (take 7 (drop (i * 7) ws))) 0
kind-here {r} {i} ws h e =
    rw (lt-ltb i (length ws / 7) h, get_or-take 7 (drop (i * 7) ws) 1 (pos 0) (omega arith), get_or-drop (i * 7) ws 1 (pos 0)) e

pub kind-none : {i : ℕ} (ws : List ℤ) → length ws / 7 ≤ i → 0 ≡ cond (ltb i (length ws / 7)) (line_kind (take 7 (drop (i * 7) ws))) 0
kind-none {i} ws h = rw (le-ltb i (length ws / 7) h)

-- ---- parts of a line

pub line-terms : {f : ℕ} (l : List ℤ) (e : ℕ) → f ≡ small (get_or l 0 (pos 0)) → e - 2 ≡ f - 1 → take (e - 2) (drop 2 l) ≡ line_terms l
line-terms l e g h = rw (h, g)

pub whole-fact : (l : List ℤ) → length l ≡ 7 → take 5 (drop 2 l) ≡ drop 2 l
whole-fact l e = take_all 5 (drop 2 l) (rw (length-drop 2 l, e) (omega arith))
