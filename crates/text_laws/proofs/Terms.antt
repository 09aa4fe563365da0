-- Terms in brackets, as they are written, are read one after the other, with their variables numbered by first place.
use mathlib.Core.Path.{◌≡◌, refl, sym, ap, ◌∙◌}
use mathlib.Core.Bool.{Bool, true, false, cond, ◌&&◌, ◌||◌}
use mathlib.Core.List.{List, [], ◌∷◌, ◌++◌, map}
use mathlib.Core.Logic.{◌⊎◌, inl, inr}
use Prim.Native.Nat.{ℕ, suc, ◌+◌, ◌≤◌, ◌<◌}
use native.Mathlib.Omega.{arith}
use lib.Dec.{eqb, ltb, leb}
use lib.IntN.{ℤ, pos, negsuc}
use lib.ListN.{length, length-map}
use borrow.Author.Tests.{eq-eqb, ne_eqb, eqb-true, eqb-false, lt-ltb, ltb-true, ltb-false, le-leb, lt-leb}
use Rattle.list_laws.proofs.Lists.{map_append}
use Rattle.sheet_format.specs.Limits.{most_variables, constant_end}
use Rattle.sheet_format.specs.Line.{all}
use Rattle.sheet_format.specs.Cause.{or_out, is_term, term_of, term}
use Rattle.sheet_format.specs.Answers.{FieldTerm}
use Rattle.sheet_format.specs.Answers.FieldTerm.{Constant, Variable}
use Rattle.sheet_format.proofs.Lists.{no_way, true-false, and_left, and_right}
use Rattle.text_begins.specs.Begins.{is_blank_byte}
use Rattle.text_writer.specs.Texts.{variable_letter, word_bytes, term_bytes}
use Rattle.text_writer.proofs.Parts.{letter_at}
use Rattle.text_meaning.specs.Tokens.{token_kind, is_in_word, joins, tokens}
use Rattle.text_meaning.specs.Names.{are_same_bytes, noted, place_in, number_named, token_mark}
use Rattle.text_meaning.specs.Reading.{Reading, field_for, read, read_all}
use Rattle.text_laws.specs.Numbered.{place_among, known, numbered_term, known_after, known_behind}
use Rattle.text_laws.proofs.Few.{Fresh, Different, different_more, few}
use Rattle.text_laws.proofs.Written.{Stops, GoOn, Shows, token_back, digit-kind, digits-go-on, number_shows, number-back}

-- ---- bytes that are read from somewhere on

-- the rest of a text
abbrev pub reads : Reading → List ℕ → Reading
reads p s = read_all p (tokens s ++ ([] ∷ []))

-- a token that fits leads on
run_on : (p q : Reading) (w : List ℕ) (ws : List (List ℕ)) → read p w ≡ q → q.control.expected ≡ 0 → read_all p (w ∷ ws) ≡ read_all q ws
unfolding read_all
run_on p q w ws e f = rw (e, eq-eqb q.control.expected 0 f)

pub word_on : (p q : Reading) (a : ℕ) (w s : List ℕ) → is_blank_byte a ≡ false → GoOn (token_kind a) w → Stops (token_kind a) s → read p (a ∷ w) ≡ q → q.control.expected ≡ 0 → reads p ((a ∷ w) ++ s) ≡ reads q s
word_on p q a w s b g k e f = ap (λ ts. read_all p (ts ++ ([] ∷ []))) (token_back a w s b g k) ∙ run_on p q (a ∷ w) (tokens s ++ ([] ∷ [])) e f

no_join : (k : ℕ) (s : List ℕ) → ((n : ℕ) → joins k n ≡ false) → Stops k s
no_join k [] h = tt
no_join k (b ∷ s) h = h (token_kind b)

-- a sign is a token by itself
pub sign-on : (p q : Reading) (b : ℕ) (s : List ℕ) → is_blank_byte b ≡ false → ((n : ℕ) → joins (token_kind b) n ≡ false) → read p (b ∷ []) ≡ q → q.control.expected ≡ 0 → reads p (b ∷ s) ≡ reads q s
sign-on p q b s k h e f = word_on p q b [] s k tt (no_join (token_kind b) s h) e f

-- and ends what comes before it
pub ended : (k n : ℕ) → is_in_word n ≡ false → joins k n ≡ false
unfolding joins
ended k n h = by (eqb k 97 || eqb k 65) (eqb k 48) (eqb n 97 || eqb n 65) (eqb n 48) h
  where
    by : (t u x v : Bool) → (x || v) ≡ false → cond t (x || v) (u && v) ≡ false
    by true u x v e = e
    by false false x v e = refl
    by false true true v e = true-false e
    by false true false v e = e

-- ---- letters of variables

abbrev pub letter_for : ℕ → List ℕ
letter_for v = variable_letter (suc v) ∷ []

abbrev pub letters : List ℕ → List (List ℕ)
letters ks = map letter_for ks

-- variables of a block, each but once
abbrev pub Below : List ℕ → Type 0
Below ks = Different most_variables ks

letter_is : (v : ℕ) → v < most_variables → variable_letter (suc v) ≡ 97 + v
letter_is v h = sym (letter_at (suc v)) ∙ omega arith

same_letter : (v k : ℕ) → v < most_variables → k < most_variables → are_same_bytes (letter_for v) (letter_for k) ≡ eqb v k
unfolding are_same_bytes
same_letter v k h l = rw (letter_is v h, letter_is k l) (by (eqb v k) refl)
  where
    by : (t : Bool) → eqb v k ≡ t → (eqb (97 + v) (97 + k) && true) ≡ eqb v k
    by true e = let q = eqb-true v k e in rw (e, eq-eqb (97 + v) (97 + k) (omega arith))
    by false e = let q = eqb-false v k e in rw (e, ne_eqb (97 + v) (97 + k) (λ i. q (omega arith)))

place_letter : (v : ℕ) (ks : List ℕ) → v < most_variables → Below ks → place_in (letter_for v) (letters ks) ≡ place_among v ks
unfolding place_in place_among
place_letter v [] h b = refl
place_letter v (k ∷ ks) h b = rw (same_letter v k h b.0, place_letter v ks h b.2)

-- a new one is none of them
pub new-fresh : (v : ℕ) (ks : List ℕ) → length ks ≤ place_among v ks → Fresh v ks
unfolding place_among
new-fresh v [] h = tt
new-fresh v (k ∷ ks) h = by (eqb v k) refl h (new-fresh v ks)
  where
    by : (t : Bool) → eqb v k ≡ t → suc (length ks) ≤ cond t 0 (suc (place_among v ks)) → (length ks ≤ place_among v ks → Fresh v ks) → Fresh v (k ∷ ks)
    by true e h r = absurd (omega arith)
    by false e h r = (eqb-false v k e, r (omega arith))

noted_letter : (v : ℕ) (ks : List ℕ) → v < most_variables → Below ks → noted (letter_for v) (letters ks) ≡ letters (known v ks)
unfolding noted known
noted_letter v ks h b = rw (place_letter v ks h b, length-map ks letter_for) (by (ltb (place_among v ks) (length ks)) refl)
  where
    by : (t : Bool) → ltb (place_among v ks) (length ks) ≡ t → cond t (letters ks) (cond (leb most_variables (length ks)) (letters ks) (letters ks ++ (letter_for v ∷ []))) ≡ letters (cond t ks (ks ++ (v ∷ [])))
    by true e = refl
    by false e =
        let l = few most_variables (v ∷ ks) (h, new-fresh v ks (ltb-false (place_among v ks) (length ks) e), b) in
        rw (lt-leb most_variables (length ks) (omega arith)) (sym (map_append letter_for ks (v ∷ [])))

known-below : (v : ℕ) (ks : List ℕ) → v < most_variables → Below ks → Below (known v ks)
unfolding known
known-below v ks h b = by (ltb (place_among v ks) (length ks)) refl
  where
    by : (t : Bool) → ltb (place_among v ks) (length ks) ≡ t → Below (cond t ks (ks ++ (v ∷ [])))
    by true e = b
    by false e = different_more most_variables v ks b (new-fresh v ks (ltb-false (place_among v ks) (length ks) e)) h

-- ---- a term

-- the kind of a token that is a number or a variable
abbrev pub term_kind : ℤ → ℕ
term_kind (pos n) = 48
term_kind (negsuc v) = 97

-- a term as a token, after the variables ks
pub record Token (z : ℤ) (ks : List ℕ) : Type 0 where
  pub first : ℕ
  pub more : List ℕ
  pub bytes : term_bytes z ≡ first ∷ more
  pub apart : is_blank_byte first ≡ false
  pub on : GoOn (token_kind first) more
  pub kind : (token_mark (first ∷ more)).kind ≡ term_kind z
  pub is : ((token_mark (first ∷ more)).kind ≡ 48) ⊎ ((token_mark (first ∷ more)).kind ≡ 97)
  pub field : field_for (token_mark (first ∷ more)) (first ∷ more) (letters ks) ≡ numbered_term ks z
  pub names : cond (eqb (token_mark (first ∷ more)).kind 97) (noted (first ∷ more) (letters ks)) (letters ks) ≡ letters (known_after ks z)
  pub below : Below (known_after ks z)

not-blank : (a : ℕ) → 32 < a → is_blank_byte a ≡ false
not-blank a h = rw (ne_eqb a 32 (λ e. omega arith), ne_eqb a 9 (λ e. omega arith), ne_eqb a 13 (λ e. omega arith))

number-token : (n : ℕ) (ks : List ℕ) → n < constant_end → Below ks → Token (pos n) ks
unfolding token_mark term_bytes term_of
number-token n ks h b = by (word_bytes (pos n)) refl (number_shows n (omega arith)) (number-back n (omega arith))
  where
    written : term_bytes (pos n) ≡ word_bytes (pos n)
    written = rw (lt-ltb n constant_end h)

    by : (w : List ℕ) → word_bytes (pos n) ≡ w → Shows n w → number_named w ≡ n → Token (pos n) ks
    by [] e s v = absurd (let k = s.some in omega arith)
    by (a ∷ w) e s v =
        let k = digit-kind a s.digits.0 s.digits.1 in
        record {
          first = a;
          more = w;
          bytes = written ∙ e;
          apart = not-blank a (let q = s.digits.0 in omega arith);
          on = rw k (digits-go-on w s.digits.2);
          kind = k;
          is = inl k;
          field = rw (k, v);
          names = rw k;
          below = b;
        }

letter_kind : (v : ℕ) → v < most_variables → token_kind (variable_letter (suc v)) ≡ 97
unfolding token_kind
letter_kind v h = rw (letter_is v h, le-leb 97 (97 + v) (omega arith), le-leb (97 + v) (96 + 26) (omega arith))

letter_token : (v : ℕ) (ks : List ℕ) → v < most_variables → Below ks → Token (negsuc v) ks
unfolding token_mark term_bytes term_of
letter_token v ks h b =
    let k = letter_kind v h in
    record {
      first = variable_letter (suc v);
      more = [];
      bytes = rw (lt-ltb v most_variables h);
      apart = not-blank (variable_letter (suc v)) (let e = letter_is v h in omega arith);
      on = tt;
      kind = k;
      is = inr k;
      field = rw k (ap negsuc (place_letter v ks h b));
      names = rw k (noted_letter v ks h b);
      below = known-below v ks h b;
    }

pub in-range : (t : Bool) (f : FieldTerm) → is_term (or_out t f) ≡ true → t ≡ true
in-range true f e = refl
in-range false f e = no_way e

-- every term in range is one
pub term-token : (z : ℤ) (ks : List ℕ) → term z ≡ true → Below ks → Token z ks
unfolding term_of
term-token (pos n) ks e b = number-token n ks (ltb-true n constant_end (in-range (ltb n constant_end) (Constant n) e)) b
term-token (negsuc v) ks e b = letter_token v ks (ltb-true v most_variables (in-range (ltb v most_variables) (Variable (suc v)) e)) b

-- all variables stay in range
pub terms-below : (zs : List ℤ) (ks : List ℕ) → all term zs ≡ true → Below ks → Below (known_behind ks zs)
unfolding known_behind
terms-below [] ks e b = b
terms-below (z ∷ zs) ks e b = terms-below zs (known_after ks z) (and_right (term z) (all term zs) e) (term-token z ks (and_left (term z) (all term zs) e) b).below
