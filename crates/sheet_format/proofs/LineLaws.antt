-- Laws of lines.
use mathlib.Core.Path.{◌≡◌, refl, sym, ap, ◌∙◌, subst}
use mathlib.Core.Bool.{Bool, true, false, cond, not, ◌&&◌}
use mathlib.Core.List.{List, [], ◌∷◌, ◌++◌, map, append_assoc}
use Prim.Native.Nat.{ℕ, zero, suc, ◌-◌, ◌*◌, ◌/◌, ◌%◌, ◌≤◌}
use native.Mathlib.Omega.{arith}
use borrow.Author.Tests.{leb-true, eqb-true, eq-eqb, le-leb, not-true}
use lib.Dec.{eqb, leb}
use lib.IntN.{ℤ, pos, negsuc}
use lib.ListN.{length, take, drop, replicate, length-append, length-take, length-drop, length-map, take-append-drop, length-replicate}
use lib.Seq.{take-append_seam, drop-append_seam, take_at, drop_at}
use Rattle.sheet_format.specs.Limits.{field_byte_count, most_fields, line_word_count}
use Rattle.sheet_format.specs.Field.{field_of, field_bytes, fits}
use Rattle.sheet_format.specs.Line.{Line, all, gather, null, closed_from, closed, open_from, eights, is_number, number, fields_in, is_well_formed, line_of, byte_lines, line_bytes, bytes_of, natural, is_zero, count, well_formed_words, word_line, sevens, word_lines, line_words, words_of}
use Rattle.sheet_format.specs.Answers.{Field}
use Rattle.sheet_format.specs.Answers.Field.{Number, Malformed}
use Rattle.sheet_format.proofs.Lists.{no_way, and_left, and_right, and_both, all_append, all_replicate, append-nil}
use Rattle.sheet_format.proofs.Good.{FittingLine, Goods, LinesNonempty, nil_good, formed-head, formed_tail}
use Rattle.sheet_format.proofs.FieldLaws.{field-length, field_back, field-shown, field_fits, field_open}

-- ---- lines of bytes: `NoLineEnd` bytes hold no byte 10

abbrev pub NoLineEnd : List ℕ → Type 0
NoLineEnd s = all (λ b. not (eqb b 10)) s ≡ true

open_head : (b : ℕ) (s : List ℕ) → NoLineEnd (b ∷ s) → eqb b 10 ≡ false
open_head b s h = not-true (eqb b 10) (and_left (not (eqb b 10)) (all (λ b. not (eqb b 10)) s) h)

open_tail : (b : ℕ) (s : List ℕ) → NoLineEnd (b ∷ s) → NoLineEnd s
open_tail b s h = and_right (not (eqb b 10)) (all (λ b. not (eqb b 10)) s) h

closed-line : (cur xs ys : List ℕ) → NoLineEnd xs → closed_from cur (xs ++ 10 ∷ ys) ≡ (cur ++ xs) ∷ closed_from [] ys
unfolding closed_from
closed-line cur [] ys h = ap (λ l. l ∷ closed_from [] ys) (sym (append-nil cur))
closed-line cur (b ∷ xs) ys h =
    rw (open_head b xs h) (closed-line (cur ++ (b ∷ [])) xs ys (open_tail b xs h) ∙ ap (λ l. l ∷ closed_from [] ys) (append_assoc cur (b ∷ []) xs))

closed_none : (cur xs : List ℕ) → NoLineEnd xs → closed_from cur xs ≡ []
unfolding closed_from
closed_none cur [] h = refl
closed_none cur (b ∷ xs) h = rw (open_head b xs h) (closed_none (cur ++ (b ∷ [])) xs (open_tail b xs h))

open_line : (cur xs ys : List ℕ) → NoLineEnd xs → open_from cur (xs ++ 10 ∷ ys) ≡ open_from [] ys
unfolding open_from
open_line cur [] ys h = refl
open_line cur (b ∷ xs) ys h = rw (open_head b xs h) (open_line (cur ++ (b ∷ [])) xs ys (open_tail b xs h))

open_rest : (cur xs : List ℕ) → NoLineEnd xs → open_from cur xs ≡ cur ++ xs
unfolding open_from
open_rest cur [] h = sym (append-nil cur)
open_rest cur (b ∷ xs) h = rw (open_head b xs h) (open_rest (cur ++ (b ∷ [])) xs (open_tail b xs h) ∙ append_assoc cur (b ∷ []) xs)

-- the first line of a sheet's bytes
pub closed-first : (xs ys : List ℕ) → NoLineEnd xs → closed (xs ++ 10 ∷ ys) ≡ xs ∷ closed ys
closed-first xs ys h = closed-line [] xs ys h

pub closed-nothing : (xs : List ℕ) → NoLineEnd xs → closed xs ≡ []
closed-nothing xs h = closed_none [] xs h

pub lines-first : (xs ys : List ℕ) → NoLineEnd xs → byte_lines (xs ++ 10 ∷ ys) ≡ line_of xs ∷ byte_lines ys
unfolding byte_lines
lines-first xs ys h = rw (closed-line [] xs ys h, open_line [] xs ys h)

pub lines_none : byte_lines [] ≡ []
unfolding byte_lines closed_from open_from
lines_none = refl

-- bytes that no byte 10 closes are a malformed line
pub lines_open : (b : ℕ) (xs : List ℕ) → NoLineEnd (b ∷ xs) → byte_lines (b ∷ xs) ≡ [] ∷ []
unfolding byte_lines
lines_open b xs h = rw (closed_none [] (b ∷ xs) h, open_rest [] (b ∷ xs) h)

-- ---- good lines

is-number : (f : Field) → is_number f ≡ true → f ≡ Number (number f)
is-number (Number z) e = refl
is-number Malformed e = no_way e

pub eights-length : (k : ℕ) (s : List ℕ) → length (eights k s) ≡ k
eights-length zero s = refl
eights-length (suc k) s = ap suc (eights-length k (drop field_byte_count s))

fields-length : (k : ℕ) (s : List ℕ) → length (map number (map field_of (eights k s))) ≡ k
fields-length k s = length-map (map field_of (eights k s)) number ∙ length-map (eights k s) field_of ∙ eights-length k s

first-eight : (k : ℕ) (s : List ℕ) → suc k * 8 ≤ length s → length (take field_byte_count s) ≡ 8
first-eight k s le = simp length-take (omega arith)

all_fit : (k : ℕ) (s : List ℕ) → k * 8 ≤ length s → all is_number (map field_of (eights k s)) ≡ true → all fits (map number (map field_of (eights k s))) ≡ true
all_fit zero s le h = refl
all_fit (suc k) s le h =
    let f = field_of (take field_byte_count s) in
    let r = map field_of (eights k (drop field_byte_count s)) in
    and_both (fits (number f)) (all fits (map number r))
    (field_fits (take field_byte_count s) (number f) (first-eight k s le) (is-number f (and_left (is_number f) (all is_number r) h)))
    (all_fit k (drop field_byte_count s) (simp length-drop (omega arith)) (and_right (is_number f) (all is_number r) h))

all_shown : (k : ℕ) (s : List ℕ) → length s ≡ k * 8 → all is_number (map field_of (eights k s)) ≡ true → gather field_bytes (map number (map field_of (eights k s))) ≡ s
all_shown zero [] e h = refl
all_shown zero (b ∷ s) e h = absurd (omega arith)
all_shown (suc k) s e h =
    let f = field_of (take field_byte_count s) in
    let r = map field_of (eights k (drop field_byte_count s)) in
    ap (λ x. x ++ gather field_bytes (map number r)) (field-shown (take field_byte_count s) (number f) (first-eight k s (omega arith)) (is-number f (and_left (is_number f) (all is_number r) h)))
    ∙ ap (λ x. take field_byte_count s ++ x) (all_shown k (drop field_byte_count s) (simp length-drop (omega arith)) (and_right (is_number f) (all is_number r) h))
    ∙ take-append-drop field_byte_count s

-- what a well-formed line has
pub record WellFormed (s : List ℕ) : Type 0 where
  pub whole : length s ≡ length s / field_byte_count * 8
  pub some : 1 ≤ length s / field_byte_count
  pub few : length s / field_byte_count ≤ most_fields
  pub numbers : all is_number (fields_in s) ≡ true

well_formed_parts : (s : List ℕ) → is_well_formed s ≡ true → WellFormed s
well_formed_parts s e =
    let n = length s / field_byte_count in
    let a = and_right (eqb (length s % field_byte_count) 0) (leb 1 n && (leb n most_fields && all is_number (fields_in s))) e in
    let b = and_right (leb 1 n) (leb n most_fields && all is_number (fields_in s)) a in
    let m = eqb-true (length s % field_byte_count) 0 (and_left (eqb (length s % field_byte_count) 0) (leb 1 n && (leb n most_fields && all is_number (fields_in s))) e) in
    record {
      whole = omega arith;
      some = leb-true 1 n (and_left (leb 1 n) (leb n most_fields && all is_number (fields_in s)) a);
      few = leb-true n most_fields (and_left (leb n most_fields) (all is_number (fields_in s)) b);
      numbers = and_right (leb n most_fields) (all is_number (fields_in s)) b;
    }

-- a line's fields are none where it is malformed
pub line-by : (s : List ℕ) (t : Bool) → is_well_formed s ≡ t → line_of s ≡ cond t (map number (fields_in s)) []
unfolding line_of
line-by s t e = ap (λ b. cond b (map number (fields_in s)) []) e

pub line-good : (s : List ℕ) → FittingLine (line_of s)
line-good s = go (is_well_formed s) refl
  where
    go : (t : Bool) → is_well_formed s ≡ t → FittingLine (line_of s)
    go false e = subst FittingLine (sym (line-by s false e)) nil_good
    go true e = let w = well_formed_parts s e in let f = w.few in let l = fields-length (length s / field_byte_count) s in
        subst FittingLine (sym (line-by s true e)) (record { few = omega arith; fitting = all_fit (length s / field_byte_count) s (let q = w.whole in omega arith) w.numbers })

pub line-shown : (s : List ℕ) → null (line_of s) ≡ false → gather field_bytes (line_of s) ≡ s
line-shown s h = go (is_well_formed s) refl
  where
    go : (t : Bool) → is_well_formed s ≡ t → gather field_bytes (line_of s) ≡ s
    go false e = no_way (sym (ap null (sym (line-by s false e)) ∙ h))
    go true e = let w = well_formed_parts s e in ap (gather field_bytes) (line-by s true e) ∙ all_shown (length s / field_byte_count) s w.whole w.numbers

-- ---- numbers that fit, as a line's bytes

pub bytes-length : (l : Line) → length (gather field_bytes l) ≡ length l * 8
bytes-length [] = refl
bytes-length (z ∷ l) = let a = field-length z in let b = bytes-length l in simp length-append (omega arith)

pub bytes_open : (l : Line) → all fits l ≡ true → NoLineEnd (gather field_bytes l)
bytes_open [] h = refl
bytes_open (z ∷ l) h =
    all_append (λ b. not (eqb b 10)) (field_bytes z) (gather field_bytes l) (field_open (field_bytes z) z (field_back z (and_left (fits z) (all fits l) h)))
    (bytes_open l (and_right (fits z) (all fits l) h))

fields_back : (l : Line) → all fits l ≡ true → map field_of (eights (length l) (gather field_bytes l)) ≡ map Number l
fields_back [] h = refl
fields_back (z ∷ l) h =
    rw (take_at (field_bytes z) (gather field_bytes l) 8 (field-length z), drop_at (field_bytes z) (gather field_bytes l) 8 (field-length z), field_back z (and_left (fits z) (all fits l) h))
    (ap (λ r. Number z ∷ r) (fields_back l (and_right (fits z) (all fits l) h)))

all-number : (l : Line) → all is_number (map Number l) ≡ true
all-number [] = refl
all-number (z ∷ l) = all-number l

numbers-same : (l : Line) → map number (map Number l) ≡ l
numbers-same [] = refl
numbers-same (z ∷ l) = ap (λ r. z ∷ r) (numbers-same l)

-- a line's bytes read back
pub line-back : (l : Line) → FittingLine l → null l ≡ false → line_of (gather field_bytes l) ≡ l
unfolding line_of
line-back [] g h = no_way (sym h)
line-back (z ∷ l) g h =
    let s = gather field_bytes (z ∷ l) in
    let n = bytes-length (z ∷ l) in
    let f = g.few in
    let k : length s / field_byte_count ≡ length (z ∷ l) = omega arith in
    let w : fields_in s ≡ map Number (z ∷ l) = ap (λ i. map field_of (eights i s)) k ∙ fields_back (z ∷ l) g.fitting in
    let t : is_well_formed s ≡ true = rw (eq-eqb (length s % field_byte_count) 0 (omega arith), le-leb 1 (length s / field_byte_count) (omega arith), le-leb (length s / field_byte_count) most_fields (omega arith), w) (all-number l) in
    ap (λ b. cond b (map number (fields_in s)) []) t ∙ ap (map number) w ∙ numbers-same (z ∷ l)

-- ---- lines of words

pub words-length : (l : Line) → FittingLine l → length (line_words l) ≡ 7
unfolding line_words
words-length l g = let f = g.few in simp (length-append, length-replicate) (omega arith)

zeros : (l : List ℤ) → all is_zero l ≡ true → l ≡ replicate (length l) (pos 0)
zeros [] h = refl
zeros (pos n ∷ l) h = let e = eqb-true n 0 (and_left (eqb n 0) (all is_zero l) h) in
    ap (λ k. pos k ∷ l) e ∙ ap (λ r. pos 0 ∷ r) (zeros l (and_right (eqb n 0) (all is_zero l) h))
zeros (negsuc n ∷ l) h = no_way h

-- a line's words read back
pub word_back : (l : Line) → FittingLine l → word_line (line_words l) ≡ l
unfolding word_line line_words
word_back [] g = refl
word_back (z ∷ l) g =
    let n = length (z ∷ l) in
    let f = g.few in
    let r = replicate (most_fields - n) (pos 0) in
    let t : take n ((z ∷ l) ++ r) ≡ z ∷ l = take-append_seam (z ∷ l) r in
    let d : drop n ((z ∷ l) ++ r) ≡ r = drop-append_seam (z ∷ l) r in
    let ft : all fits (take n ((z ∷ l) ++ r)) ≡ true = ap (all fits) t ∙ g.fitting in
    let zs : all is_zero (drop n ((z ∷ l) ++ r)) ≡ true = ap (all is_zero) d ∙ all_replicate is_zero (most_fields - n) (pos 0) refl in
    let w : well_formed_words (pos n ∷ (z ∷ l) ++ r) ≡ true =
    and_both (leb 1 n) (leb n most_fields && (all fits (take n ((z ∷ l) ++ r)) && all is_zero (drop n ((z ∷ l) ++ r)))) (le-leb 1 n (omega arith))
    (and_both (leb n most_fields) (all fits (take n ((z ∷ l) ++ r)) && all is_zero (drop n ((z ∷ l) ++ r))) (le-leb n most_fields f)
    (and_both (all fits (take n ((z ∷ l) ++ r))) (all is_zero (drop n ((z ∷ l) ++ r))) ft zs)) in
    ap (λ b. cond b (take n ((z ∷ l) ++ r)) []) w ∙ t

-- what well-formed words have
pub record FormedWords (ws : List ℤ) : Type 0 where
  pub some : 1 ≤ count ws
  pub few : count ws ≤ most_fields
  pub fitting : all fits (take (count ws) (drop 1 ws)) ≡ true
  pub unused : all is_zero (drop (count ws) (drop 1 ws)) ≡ true

pub formed-words : (ws : List ℤ) → well_formed_words ws ≡ true → FormedWords ws
formed-words ws e =
    let n = count ws in
    let f = all fits (take n (drop 1 ws)) in
    let z = all is_zero (drop n (drop 1 ws)) in
    let a = and_right (leb 1 n) (leb n most_fields && (f && z)) e in
    let b = and_right (leb n most_fields) (f && z) a in
    record {
      some = leb-true 1 n (and_left (leb 1 n) (leb n most_fields && (f && z)) e);
      few = leb-true n most_fields (and_left (leb n most_fields) (f && z) a);
      fitting = and_left f z b;
      unused = and_right f z b;
    }

word-by : (ws : List ℤ) (t : Bool) → well_formed_words ws ≡ t → word_line ws ≡ cond t (take (count ws) (drop 1 ws)) []
unfolding word_line
word-by ws t e = ap (λ b. cond b (take (count ws) (drop 1 ws)) []) e

pub word_good : (ws : List ℤ) → FittingLine (word_line ws)
word_good ws = go (well_formed_words ws) refl
  where
    go : (t : Bool) → well_formed_words ws ≡ t → FittingLine (word_line ws)
    go false e = subst FittingLine (sym (word-by ws false e)) nil_good
    go true e = let w = formed-words ws e in let f = w.few in
        subst FittingLine (sym (word-by ws true e)) (record { few = simp length-take (omega arith); fitting = w.fitting })

pub natural-pos : (z : ℤ) → 1 ≤ natural z → z ≡ pos (natural z)
natural-pos (pos n) h = refl
natural-pos (negsuc n) h = absurd (omega arith)

-- a line that is not malformed
pub word-formed : (ws : List ℤ) → null (word_line ws) ≡ false → FormedWords ws × (word_line ws ≡ take (count ws) (drop 1 ws))
word-formed ws h = go (well_formed_words ws) refl
  where
    go : (t : Bool) → well_formed_words ws ≡ t → FormedWords ws × (word_line ws ≡ take (count ws) (drop 1 ws))
    go false b = no_way (sym (ap null (sym (word-by ws false b)) ∙ h))
    go true b = (formed-words ws b, word-by ws true b)

shown-words : (z : ℤ) (fs : List ℤ) → length fs ≡ 6 → FormedWords (z ∷ fs) → line_words (take (natural z) fs) ≡ z ∷ fs
unfolding line_words
shown-words z fs e w =
    let n = natural z in
    let f : n ≤ 6 = w.few in
    let k : length (take n fs) ≡ n = simp length-take (omega arith) in
    let d : length (drop n fs) ≡ most_fields - n = simp length-drop (omega arith) in
    ap (λ i. (pos i ∷ take n fs) ++ replicate (most_fields - i) (pos 0)) k
    ∙ ap (λ i. (pos n ∷ take n fs) ++ replicate i (pos 0)) (sym d)
    ∙ ap (λ r. (pos n ∷ take n fs) ++ r) (sym (zeros (drop n fs) w.unused))
    ∙ ap (λ r. pos n ∷ r) (take-append-drop n fs)
    ∙ ap (λ i. i ∷ fs) (sym (natural-pos z w.some))

pub word-shown : (ws : List ℤ) → length ws ≡ 7 → null (word_line ws) ≡ false → line_words (word_line ws) ≡ ws
word-shown [] e h = absurd (omega arith)
word-shown (z ∷ fs) e h = let f = word-formed (z ∷ fs) h in ap line_words f.1 ∙ shown-words z fs (omega arith) f.0

-- ---- all lines

pub all-words-length : (ls : List Line) → Goods ls → length (words_of ls) ≡ length ls * 7
unfolding words_of
all-words-length [] g = refl
all-words-length (l ∷ ls) g = let a = words-length l g.0 in let b = all-words-length ls g.1 in simp length-append (omega arith)

sevens-back : (ls : List Line) → Goods ls → sevens (length ls) (words_of ls) ≡ ls
unfolding sevens words_of
sevens-back [] g = refl
sevens-back (l ∷ ls) g =
    rw (take_at (line_words l) (words_of ls) 7 (words-length l g.0), drop_at (line_words l) (words_of ls) 7 (words-length l g.0), word_back l g.0)
    (ap (λ r. l ∷ r) (sevens-back ls g.1))

-- the number form reads back
pub words_back : (ls : List Line) → Goods ls → word_lines (words_of ls) ≡ ls
words_back ls g = let n = all-words-length ls g in ap (λ k. sevens k (words_of ls)) (let e : length (words_of ls) / 7 ≡ length ls = omega arith in e) ∙ sevens-back ls g

pub sevens-length : (k : ℕ) (ws : List ℤ) → length (sevens k ws) ≡ k
unfolding sevens
sevens-length zero ws = refl
sevens-length (suc k) ws = ap suc (sevens-length k (drop line_word_count ws))

pub sevens-good : (k : ℕ) (ws : List ℤ) → Goods (sevens k ws)
unfolding sevens
sevens-good zero ws = tt
sevens-good (suc k) ws = (word_good (take line_word_count ws), sevens-good k (drop line_word_count ws))

pub sevens-shown : (k : ℕ) (ws : List ℤ) → length ws ≡ k * 7 → LinesNonempty (sevens k ws) → words_of (sevens k ws) ≡ ws
unfolding sevens words_of
sevens-shown zero [] e h = refl
sevens-shown zero (w ∷ ws) e h = absurd (omega arith)
sevens-shown (suc k) ws e h =
    let t : length (take line_word_count ws) ≡ 7 = simp length-take (omega arith) in
    ap (λ x. x ++ words_of (sevens k (drop line_word_count ws))) (word-shown (take line_word_count ws) t (formed-head (word_line (take line_word_count ws)) (sevens k (drop line_word_count ws)) h))
    ∙ ap (λ x. take line_word_count ws ++ x) (sevens-shown k (drop line_word_count ws) (simp length-drop (omega arith)) (formed_tail (word_line (take line_word_count ws)) (sevens k (drop line_word_count ws)) h))
    ∙ take-append-drop line_word_count ws

pub bytes_cons : (l : Line) (ls : List Line) → bytes_of (l ∷ ls) ≡ gather field_bytes l ++ 10 ∷ bytes_of ls
unfolding bytes_of line_bytes
bytes_cons l ls = append_assoc (gather field_bytes l) (10 ∷ []) (bytes_of ls)

-- the bytes read back
pub bytes_back : (ls : List Line) → Goods ls → LinesNonempty ls → byte_lines (bytes_of ls) ≡ ls
unfolding bytes_of
bytes_back [] g h = lines_none
bytes_back (l ∷ ls) g h =
    ap byte_lines (bytes_cons l ls)
    ∙ lines-first (gather field_bytes l) (bytes_of ls) (bytes_open l g.0.fitting)
    ∙ ap (λ x. x ∷ byte_lines (bytes_of ls)) (line-back l g.0 (formed-head l ls h))
    ∙ ap (λ x. l ∷ x) (bytes_back ls g.1 (formed_tail l ls h))

goods_closed : (cs : List (List ℕ)) → Goods (map line_of cs)
goods_closed [] = tt
goods_closed (c ∷ cs) = (line-good c, goods_closed cs)

pub goods_append : (p q : List Line) → Goods p → Goods q → Goods (p ++ q)
goods_append [] q g h = h
goods_append (l ∷ p) q g h = (g.0, goods_append p q g.1 h)

pub bytes_good : (s : List ℕ) → Goods (byte_lines s)
unfolding byte_lines
bytes_good s = goods_append (map line_of (closed s)) _ (goods_closed (closed s)) (last (null (open_from [] s)))
  where
    last : (t : Bool) → Goods (cond t [] ([] ∷ []))
    last true = tt
    last false = (nil_good, tt)

-- the lines with `cur` in front of the first
lines_from : List ℕ → List ℕ → List Line
lines_from cur s = map line_of (closed_from cur s) ++ cond (null (open_from cur s)) [] ([] ∷ [])

null_nil : (s : List ℕ) → null s ≡ true → s ≡ []
null_nil [] h = refl
null_nil (b ∷ s) h = no_way h

from_end : (cur : List ℕ) (t : Bool) → null cur ≡ t → LinesNonempty (cond t [] ([] ∷ [])) → bytes_of (cond t [] ([] ∷ [])) ≡ cur ++ []
unfolding bytes_of
from_end cur true e h = sym (append-nil cur ∙ null_nil cur e)
from_end cur false e h = no_way h

from-shown : (s cur : List ℕ) → LinesNonempty (lines_from cur s) → bytes_of (lines_from cur s) ≡ cur ++ s
unfolding lines_from closed_from open_from
from-shown [] cur h = from_end cur (null cur) refl h
from-shown (b ∷ s) cur h = go (eqb b 10) refl h (from-shown s []) (from-shown s (cur ++ (b ∷ [])))
  where
    lines : Bool → List Line
    lines t = map line_of (cond t (cur ∷ closed_from [] s) (closed_from (cur ++ (b ∷ [])) s)) ++ cond (null (cond t (open_from [] s) (open_from (cur ++ (b ∷ [])) s))) [] ([] ∷ [])

    go : (t : Bool) → eqb b 10 ≡ t → LinesNonempty (lines t) → (LinesNonempty (lines_from [] s) → bytes_of (lines_from [] s) ≡ s)
        → (LinesNonempty (lines_from (cur ++ (b ∷ [])) s) → bytes_of (lines_from (cur ++ (b ∷ [])) s) ≡ (cur ++ (b ∷ [])) ++ s) → bytes_of (lines t) ≡ cur ++ b ∷ s
    go true e f i j =
        let r = lines_from [] s in
        bytes_cons (line_of cur) r
        ∙ ap (λ x. x ++ 10 ∷ bytes_of r) (line-shown cur (formed-head (line_of cur) r f))
        ∙ ap (λ x. cur ++ 10 ∷ x) (i (formed_tail (line_of cur) r f))
        ∙ ap (λ k. cur ++ k ∷ s) (sym (eqb-true b 10 e))
    go false e f i j = j f ∙ append_assoc cur (b ∷ []) s

-- the lines, written out again, are the bytes
pub bytes-shown : (s : List ℕ) → LinesNonempty (byte_lines s) → bytes_of (byte_lines s) ≡ s
unfolding byte_lines lines_from
bytes-shown s h = from-shown s [] h

-- a line has at most 49 bytes
pub bytes-size : (ls : List Line) → Goods ls → length (bytes_of ls) ≤ length ls * 49
unfolding bytes_of
bytes-size [] g = omega arith
bytes-size (l ∷ ls) g =
    let f = g.0.few in
    let a = bytes-length l in
    let b = bytes-size ls g.1 in
    let c = ap length (bytes_cons l ls) ∙ length-append (gather field_bytes l) (10 ∷ bytes_of ls) in
    rw c (omega arith)
