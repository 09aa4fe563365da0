-- A line's words, field by field.
use mathlib.Core.Path.{◌≡◌, refl, sym, ap, ◌∙◌}
use mathlib.Core.Bool.{Bool, true, false, ◌&&◌}
use mathlib.Core.List.{List, [], ◌∷◌, ◌++◌, map, append_assoc}
use Prim.Native.Nat.{ℕ, zero, suc, ◌+◌, ◌-◌, ◌*◌, ◌/◌, ◌%◌, ◌<◌, ◌≤◌}
use native.Mathlib.Omega.{arith}
use native.Mathlib.Numerals.{add-one}
use borrow.Author.Tests.{eq-eqb, ne_eqb, le-leb, lt-leb}
use lib.Dec.{eqb, leb}
use lib.IntN.{ℤ, pos}
use lib.ListN.{length, take, drop, get_or, set, replicate, length-drop, length-map}
use lib.Seq.{set_at, take-nil, drop-drop, take-take, length-take-le}
use Rattle.sheet_format.proofs.LineLaws.{line-by}
use Rattle.sheet_format.specs.Limits.{field_byte_count, most_fields}
use Rattle.sheet_format.specs.Field.{field_of, field_at}
use Rattle.sheet_format.specs.Line.{all, eights, is_number, number, fields_in, is_well_formed, line_of, line_words}
use Rattle.sheet_format.specs.Answers.{Field}
use Rattle.sheet_format.specs.Answers.Field.{Number, Malformed}
use Rattle.sheet_format.proofs.Lists.{no_way, and_both, all_append, all-at, map_append}

-- field j of the bytes t
abbrev pub field_in : List ℕ → ℕ → Field
field_in t j = field_of (take field_byte_count (drop (j * 8) t))

abbrev pub firsts : List ℕ → ℕ → List Field
firsts t j = map field_of (eights j t)

drop-take : {A : Type 0} (j m : ℕ) (l : List A) → drop j (take m l) ≡ take (m - j) (drop j l)
drop-take zero m l = ap (λ k. take k l) (let e : m ≡ m - 0 = omega arith in e)
drop-take (suc j) zero l = ap (λ k. take k (drop (suc j) l)) (let e : 0 ≡ 0 - suc j = omega arith in e)
drop-take (suc j) (suc m) [] = sym (take-nil (suc m - suc j))
drop-take (suc j) (suc m) (x ∷ l) = drop-take j m l ∙ ap (λ k. take k (drop j l)) (let e : m - j ≡ suc m - suc j = omega arith in e)

pub eights-take : (k m : ℕ) (t : List ℕ) → k * 8 ≤ m → eights k (take m t) ≡ eights k t
eights-take zero m t le = refl
eights-take (suc k) m t le = rw (take-take 8 m t (omega arith), drop-take 8 m t, eights-take k (m - 8) (drop 8 t) (omega arith))

eights-more : (k : ℕ) (t : List ℕ) → eights (suc k) t ≡ eights k t ++ (take field_byte_count (drop (k * 8) t) ∷ [])
eights-more zero t = refl
eights-more (suc k) t =
    ap (λ x. take field_byte_count t ∷ x) (eights-more k (drop field_byte_count t) ∙ ap (λ x. eights k (drop field_byte_count t) ++ (take field_byte_count x ∷ [])) (drop-drop (k * 8) 8 t ∙ ap (λ n. drop n t) (let e : 8 + k * 8 ≡ suc k * 8 = omega arith in e)))

firsts_more : (t : List ℕ) (j : ℕ) → firsts t (j + 1) ≡ firsts t j ++ (field_in t j ∷ [])
firsts_more t j = ap (λ k. map field_of (eights k t)) (add-one j) ∙ ap (map field_of) (eights-more j t) ∙ map_append field_of (eights j t) (take field_byte_count (drop (j * 8) t) ∷ [])

firsts-length : (t : List ℕ) (j : ℕ) → length (firsts t j) ≡ j
firsts-length t zero = refl
firsts-length t (suc j) = ap suc (firsts-length (drop field_byte_count t) j)

firsts_at : (t : List ℕ) (n j : ℕ) → j < n → get_or (firsts t n) j Malformed ≡ field_in t j
firsts_at t zero j lt = absurd (omega arith)
firsts_at t (suc n) zero lt = refl
firsts_at t (suc n) (suc j) lt = firsts_at (drop field_byte_count t) n j (omega arith) ∙ ap (λ x. field_of (take field_byte_count x)) (drop-drop (j * 8) 8 t ∙ ap (λ k. drop k t) (let e : 8 + j * 8 ≡ suc j * 8 = omega arith in e))

-- ---- the words when j fields are in

abbrev pub part_words : List ℕ → ℕ → List ℤ
part_words t j = (pos 0 ∷ map number (firsts t j)) ++ replicate (6 - j) (pos 0)

numbers_more : (t : List ℕ) (j : ℕ) (z : ℤ) → field_in t j ≡ Number z → map number (firsts t (j + 1)) ≡ map number (firsts t j) ++ (z ∷ [])
numbers_more t j z e = ap (map number) (firsts_more t j) ∙ map_append number (firsts t j) (field_in t j ∷ []) ∙ ap (λ f. map number (firsts t j) ++ (number f ∷ [])) e

pub part-more : (t : List ℕ) (j : ℕ) (z : ℤ) → j < 6 → field_in t j ≡ Number z → set (part_words t j) (j + 1) z ≡ part_words t (j + 1)
part-more t j z lt e =
    let ns = map number (firsts t j) in
    let l : length (pos 0 ∷ ns) ≡ j + 1 = ap suc (length-map (firsts t j) number ∙ firsts-length t j) ∙ sym (add-one j) in
    ap (λ k. set ((pos 0 ∷ ns) ++ replicate k (pos 0)) (j + 1) z) (let q : 6 - j ≡ suc (6 - (j + 1)) = omega arith in q)
    ∙ set_at (pos 0 ∷ ns) (pos 0) (replicate (6 - (j + 1)) (pos 0)) z (j + 1) l
    ∙ ap (λ x. pos 0 ∷ x) (sym (append_assoc ns (z ∷ []) (replicate (6 - (j + 1)) (pos 0))))
    ∙ ap (λ x. pos 0 ∷ (x ++ replicate (6 - (j + 1)) (pos 0))) (sym (numbers_more t j z e))

pub all_more : (t : List ℕ) (j : ℕ) (z : ℤ) → all is_number (firsts t j) ≡ true → field_in t j ≡ Number z → all is_number (firsts t (j + 1)) ≡ true
all_more t j z h e = ap (all is_number) (firsts_more t j) ∙ all_append is_number (firsts t j) (field_in t j ∷ []) h (and_both (is_number (field_in t j)) true (ap is_number e) refl)

-- ---- the whole line

-- a malformed line has no field count and no fields
pub line-none : (s : List ℕ) → is_well_formed s ≡ false → replicate 7 (pos 0) ≡ line_words (line_of s)
unfolding line_words
line-none s e = sym (ap (λ l. (pos (length l) ∷ l) ++ replicate (most_fields - length l) (pos 0)) (line-by s false e))

pub odd_length : (s : List ℕ) → (length s % field_byte_count ≡ 0 → ⊥) → is_well_formed s ≡ false
odd_length s h = rw (ne_eqb (length s % field_byte_count) 0 h)

and-false : (a b : Bool) → b ≡ false → (a && b) ≡ false
and-false true b e = e
and-false false b e = refl

pub no_fields : (s : List ℕ) → length s / field_byte_count < 1 → is_well_formed s ≡ false
no_fields s h = and-false (eqb (length s % field_byte_count) 0) _ (rw (lt-leb 1 (length s / field_byte_count) h))

pub many-fields : (s : List ℕ) → 6 < length s / field_byte_count → is_well_formed s ≡ false
many-fields s h = and-false (eqb (length s % field_byte_count) 0) _ (and-false (leb 1 (length s / field_byte_count)) _ (rw (lt-leb (length s / field_byte_count) most_fields h)))

-- n fields at the front of t, as a line
module _ (t : List ℕ) (n : ℕ) (some : 1 ≤ n) (few : n ≤ 6) (fits : n * 8 ≤ length t) where
  private_length : length (take (n * 8) t) ≡ n * 8
  private_length = length-take-le (n * 8) t fits

  fields-are : fields_in (take (n * 8) t) ≡ firsts t n
  fields-are = let l = private_length in ap (λ k. map field_of (eights k (take (n * 8) t))) (let e : length (take (n * 8) t) / field_byte_count ≡ n = omega arith in e) ∙ ap (map field_of) (eights-take n (n * 8) t (omega arith))

  well_formed_by : is_well_formed (take (n * 8) t) ≡ all is_number (firsts t n)
  well_formed_by =
      let l = private_length in
      let k = length (take (n * 8) t) in
      rw (eq-eqb (k % field_byte_count) 0 (omega arith), le-leb 1 (k / field_byte_count) (omega arith), le-leb (k / field_byte_count) most_fields (omega arith)) (ap (all is_number) fields-are)

  -- all fields are numbers: the words with the field count in front
  pub line-whole : all is_number (firsts t n) ≡ true → set (part_words t n) 0 (pos n) ≡ line_words (line_of (take (n * 8) t))
  unfolding line_words
  line-whole h =
      let ns = map number (firsts t n) in
      let l : length ns ≡ n = length-map (firsts t n) number ∙ firsts-length t n in
      let w : line_of (take (n * 8) t) ≡ ns = line-by (take (n * 8) t) true (well_formed_by ∙ h) ∙ ap (map number) fields-are in
      sym (ap (λ x. (pos (length x) ∷ x) ++ replicate (most_fields - length x) (pos 0)) w ∙ ap (λ k. (pos k ∷ ns) ++ replicate (most_fields - k) (pos 0)) l)

  -- one field is malformed
  pub line-broken : (j : ℕ) → j < n → field_in t j ≡ Malformed → is_well_formed (take (n * 8) t) ≡ false
  line-broken j lt e = well_formed_by ∙ go (all is_number (firsts t n)) refl
    where
      go : (b : Bool) → all is_number (firsts t n) ≡ b → b ≡ false
      go false h = refl
      go true h = no_way (sym (ap is_number (firsts_at t n j lt ∙ e)) ∙ all-at is_number Malformed (firsts t n) h j (let l = firsts-length t n in omega arith))

pub field-here : (s : List ℕ) (at n j : ℕ) → j < n → at + n * 8 ≤ length s → field_at s (at + j * 8) ≡ field_in (drop at s) j
field-here s at n j lt le = rw (le-leb (at + j * 8 + field_byte_count) (length s) (omega arith), drop-drop (j * 8) at s)

pub part_length : (s : List ℕ) (at e : ℕ) → at ≤ e → e ≤ length s → length (take (e - at) (drop at s)) ≡ e - at
part_length s at e le in-s = length-take-le (e - at) (drop at s) (simp length-drop (omega arith))
