-- What is written in brackets is read into the line that it stands in.
use mathlib.Core.Path.{◌≡◌, refl, sym, ap, ◌∙◌}
use mathlib.Core.Bool.{Bool, true, false, cond}
use mathlib.Core.List.{List, [], ◌∷◌, ◌++◌, map, append_assoc, append-nil}
use mathlib.Core.Logic.{◌⊎◌, ⊎_elim}
use Prim.Native.Nat.{ℕ, suc, ◌+◌, ◌-◌, ◌≤◌, ◌<◌}
use native.Mathlib.Omega.{arith}
use lib.Dec.{eqb, leb}
use lib.IntN.{ℤ, pos, negsuc}
use lib.ListN.{length, take, length-append}
use lib.Seq.{take_all}
use borrow.Author.Tests.{lt-ltb, eq-eqb}
use Rattle.sheet_format.specs.Line.{Line, all}
use Rattle.sheet_format.specs.Cause.{term}
use Rattle.sheet_format.proofs.Lists.{and_left, and_right}
use Rattle.text_writer.specs.Texts.{term_bytes, following, separated, terms_bytes}
use Rattle.text_meaning.specs.Tokens.{token_kind, joins}
use Rattle.text_meaning.specs.Names.{noted, place_in, token_mark}
use Rattle.text_meaning.specs.Places.{term_expected, more_at, next_at, first_at, closed_by, close_at, step_from, step}
use Rattle.text_meaning.specs.Reading.{Reading, grown, field_for, read}
use Rattle.text_laws.specs.Numbered.{numbered_term, known_after, numbered_terms, known_behind}
use Rattle.text_laws.proofs.Terms.{reads, word_on, sign-on, ended, letters, Below, Token, term-token}

-- a reading within brackets, at a place, where so many columns may still come
abbrev pub within : ℕ → ℕ → ℕ → ℕ → ℕ → Bool → ℕ → List (List ℕ) → Line → List Line → List ℕ → Reading
within place block kind relation left puts line names l ls starts = record {
  control = record { place = place; block = block; kind = kind; relation = relation; left = left; bare = false; expected = 0; begins = false; puts = puts };
  line = line;
  names = names;
  lines = l ∷ ls;
  starts = starts;
}

-- ---- a token

module _ (block kind relation line : ℕ) (ls : List Line) (starts : List ℕ) where
  abbrev here : ℕ → ℕ → Bool → List (List ℕ) → Line → Reading
  here place left puts names l = within place block kind relation left puts line names l ls starts

  -- a term before which a comma or an atom's bracket stands
  term-read : (left : ℕ) (puts : Bool) (ns : List (List ℕ)) (l : Line) (w : List ℕ) → ((token_mark w).kind ≡ 48) ⊎ ((token_mark w).kind ≡ 97) → length l < 6
      → read (within 4 block kind relation left puts line ns l ls starts) w ≡ within 5 block kind relation (left - 1) true line (cond (eqb (token_mark w).kind 97) (noted w ns) ns) (l ++ (field_for (token_mark w) w ns ∷ [])) ls starts
  unfolding read step step_from term_expected grown
  term-read left puts ns l w t h = ⊎_elim number variable t
    where
      cut : (z : ℤ) → take 6 (l ++ (z ∷ [])) ≡ l ++ (z ∷ [])
      cut z = take_all 6 (l ++ (z ∷ [])) (rw (length-append l (z ∷ [])) (omega arith))

      number : (token_mark w).kind ≡ 48 → read (within 4 block kind relation left puts line ns l ls starts) w ≡ within 5 block kind relation (left - 1) true line (cond (eqb (token_mark w).kind 97) (noted w ns) ns) (l ++ (field_for (token_mark w) w ns ∷ [])) ls starts
      number e = rw (e, cut (pos (token_mark w).value))

      variable : (token_mark w).kind ≡ 97 → read (within 4 block kind relation left puts line ns l ls starts) w ≡ within 5 block kind relation (left - 1) true line (cond (eqb (token_mark w).kind 97) (noted w ns) ns) (l ++ (field_for (token_mark w) w ns ∷ [])) ls starts
      variable e = rw (e, cut (negsuc (place_in w ns)))

  -- or a head's or a row's
  first_read : (left : ℕ) (puts : Bool) (ns : List (List ℕ)) (l : Line) (w : List ℕ) → ((token_mark w).kind ≡ 48) ⊎ ((token_mark w).kind ≡ 97) → read (here 3 left puts ns l) w ≡ read (here 4 left puts ns l) w
  unfolding read step step_from first_at term_expected
  first_read left puts ns l w t = ⊎_elim (λ e. rw e) (λ e. rw e) t

  token-read : (z : ℤ) (ks : List ℕ) (t : Token z ks) (left : ℕ) (puts : Bool) (l : Line) → length l < 6
      → read (here 4 left puts (letters ks) l) (t.first ∷ t.more) ≡ here 5 (left - 1) true (letters (known_after ks z)) (l ++ (numbered_term ks z ∷ []))
  token-read z ks t left puts l h =
      term-read left puts (letters ks) l (t.first ∷ t.more) t.is h
      ∙ ap (λ ns. here 5 (left - 1) true ns (l ++ (field_for (token_mark (t.first ∷ t.more)) (t.first ∷ t.more) (letters ks) ∷ []))) t.names
      ∙ ap (λ f. here 5 (left - 1) true (letters (known_after ks z)) (l ++ (f ∷ []))) t.field

  comma_read : (left : ℕ) (ns : List (List ℕ)) (l : Line) → 0 < left → read (here 5 left true ns l) (44 ∷ []) ≡ here 4 left false ns l
  unfolding read step step_from next_at more_at token_mark token_kind
  comma_read left ns l h = rw (lt-ltb 0 left h)

  -- ---- terms with commas between them, before a sign that is no comma

  terms-run : (z : ℤ) (zs : List ℤ) (s : List ℕ) (p : Reading) (left : ℕ) (puts : Bool) (ks : List ℕ) (l : Line)
      → ((w : List ℕ) → ((token_mark w).kind ≡ 48) ⊎ ((token_mark w).kind ≡ 97) → read p w ≡ read (here 4 left puts (letters ks) l) w)
      → all term (z ∷ zs) ≡ true → Below ks → suc (length zs) ≤ left → length l + suc (length zs) ≤ 6
      → reads p (term_bytes z ++ (following (44 ∷ []) (map term_bytes zs) ++ (41 ∷ s)))
      ≡ reads (here 5 (left - suc (length zs)) true (letters (known_behind ks (z ∷ zs))) (l ++ numbered_terms ks (z ∷ zs))) (41 ∷ s)
  unfolding following numbered_terms known_behind token_kind joins
  terms-run z [] s p left puts ks l r e b h k =
      let t = term-token z ks (and_left (term z) true e) b in
      ap (λ w. reads p (w ++ (41 ∷ s))) t.bytes
      ∙ word_on p (here 5 (left - 1) true (letters (known_after ks z)) (l ++ (numbered_term ks z ∷ []))) t.first t.more (41 ∷ s) t.apart t.on (ended (token_kind t.first) 41 refl)
      (r (t.first ∷ t.more) t.is ∙ token-read z ks t left puts l (omega arith)) refl
  terms-run z (v ∷ zs) s p left puts ks l r e b h k =
      let t = term-token z ks (and_left (term z) (all term (v ∷ zs)) e) b in
      let ns = letters (known_after ks z) in
      let m = l ++ (numbered_term ks z ∷ []) in
      let n = length-append l (numbered_term ks z ∷ []) in
      let d : left - 1 - suc (length zs) ≡ left - suc (suc (length zs)) = omega arith in
      let s' = following (44 ∷ []) (map term_bytes zs) ++ (41 ∷ s) in
      ap (λ w. reads p (w ++ (44 ∷ ((term_bytes v ++ following (44 ∷ []) (map term_bytes zs)) ++ (41 ∷ s))))) t.bytes
      ∙ word_on p (here 5 (left - 1) true ns m) t.first t.more (44 ∷ ((term_bytes v ++ following (44 ∷ []) (map term_bytes zs)) ++ (41 ∷ s))) t.apart t.on (ended (token_kind t.first) 44 refl)
      (r (t.first ∷ t.more) t.is ∙ token-read z ks t left puts l (omega arith)) refl
      ∙ ap (λ x. reads (here 5 (left - 1) true ns m) (44 ∷ x)) (append_assoc (term_bytes v) (following (44 ∷ []) (map term_bytes zs)) (41 ∷ s))
      ∙ sign-on (here 5 (left - 1) true ns m) (here 4 (left - 1) false ns m) 44 (term_bytes v ++ s') refl (λ n. refl) (comma_read (left - 1) ns m (omega arith)) refl
      ∙ terms-run v zs s (here 4 (left - 1) false ns m) (left - 1) false (known_after ks z) m (λ w i. refl) (and_right (term z) (all term (v ∷ zs)) e) t.below (omega arith) (omega arith)
      ∙ rw (d, append_assoc l (numbered_term ks z ∷ []) (numbered_terms (known_after ks z) (v ∷ zs)))

  -- ---- the closing bracket

  -- of a head (behind it 6) or a row (behind it 11)
  close_read : (r : Bool) (left : ℕ) (puts : Bool) (ns : List (List ℕ)) (l : Line) → eqb kind 4 ≡ false → eqb kind 5 ≡ r → read (here 5 left puts ns l) (41 ∷ []) ≡ here (cond r 11 6) left false ns l
  unfolding read step step_from next_at close_at closed_by token_mark token_kind
  close_read true left puts ns l e f = rw (e, f)
  close_read false left puts ns l e f = rw (e, f)

  none_read : (r : Bool) (left : ℕ) (puts : Bool) (ns : List (List ℕ)) (l : Line) → eqb kind 4 ≡ false → eqb kind 5 ≡ r → read (here 3 left puts ns l) (41 ∷ []) ≡ here (cond r 11 6) left false ns l
  unfolding read step step_from first_at close_at closed_by token_mark token_kind
  none_read true left puts ns l e f = rw (e, f)
  none_read false left puts ns l e f = rw (e, f)

  -- of an atom that has its columns, where they are known (behind it 8)
  counted-read : (left : ℕ) (puts : Bool) (ns : List (List ℕ)) (l : Line) → eqb kind 4 ≡ true → (leb relation 10 ≡ true → left ≡ 0) → read (here 5 left puts ns l) (41 ∷ []) ≡ here 8 left false ns l
  unfolding read step step_from next_at close_at closed_by token_mark token_kind
  counted-read left puts ns l e f = by (leb relation 10) refl
    where
      by : (t : Bool) → leb relation 10 ≡ t → read (here 5 left puts ns l) (41 ∷ []) ≡ here 8 left false ns l
      by true i = rw (e, i, eq-eqb left 0 (f i))
      by false i = rw (e, i)

  -- ---- all between brackets

  -- of a head or a row
  pub head-run : (r : Bool) (zs : List ℤ) (s : List ℕ) (puts : Bool) (ks : List ℕ) (l : Line)
      → eqb kind 4 ≡ false → eqb kind 5 ≡ r → all term zs ≡ true → Below ks → length zs ≤ 4 → length l ≤ 2
      → reads (here 3 4 puts (letters ks) l) (separated (44 ∷ []) (map term_bytes zs) ++ (41 ∷ s))
      ≡ reads (here (cond r 11 6) (4 - length zs) false (letters (known_behind ks zs)) (l ++ numbered_terms ks zs)) s
  unfolding separated numbered_terms known_behind token_kind joins
  head-run r [] s puts ks l e f a b h k =
      sign-on (here 3 4 puts (letters ks) l) (here (cond r 11 6) 4 false (letters ks) l) 41 s refl (λ n. refl) (none_read r 4 puts (letters ks) l e f) refl
      ∙ ap (λ m. reads (here (cond r 11 6) 4 false (letters ks) m) s) (sym (append-nil l))
  head-run r (z ∷ zs) s puts ks l e f a b h k =
      let ns = letters (known_behind ks (z ∷ zs)) in
      let m = l ++ numbered_terms ks (z ∷ zs) in
      ap (reads (here 3 4 puts (letters ks) l)) (append_assoc (term_bytes z) (following (44 ∷ []) (map term_bytes zs)) (41 ∷ s))
      ∙ terms-run z zs s (here 3 4 puts (letters ks) l) 4 puts ks l (first_read 4 puts (letters ks) l) a b h (omega arith)
      ∙ sign-on (here 5 (4 - suc (length zs)) true ns m) (here (cond r 11 6) (4 - suc (length zs)) false ns m) 41 s refl (λ n. refl) (close_read r (4 - suc (length zs)) true ns m e f) refl

  -- of an atom
  pub atom-run : (left : ℕ) (zs : List ℤ) (s : List ℕ) (puts : Bool) (ks : List ℕ) (l : Line)
      → eqb kind 4 ≡ true → (leb relation 10 ≡ true → left ≡ length zs) → all term zs ≡ true → Below ks → 0 < length zs → length zs ≤ left → length zs ≤ 4 → length l ≤ 2
      → reads (here 4 left puts (letters ks) l) (separated (44 ∷ []) (map term_bytes zs) ++ (41 ∷ s))
      ≡ reads (here 8 (left - length zs) false (letters (known_behind ks zs)) (l ++ numbered_terms ks zs)) s
  unfolding separated numbered_terms known_behind token_kind joins
  atom-run left [] s puts ks l e f a b i n h k = absurd (omega arith)
  atom-run left (z ∷ zs) s puts ks l e f a b i n h k =
      let ns = letters (known_behind ks (z ∷ zs)) in
      let m = l ++ numbered_terms ks (z ∷ zs) in
      ap (reads (here 4 left puts (letters ks) l)) (append_assoc (term_bytes z) (following (44 ∷ []) (map term_bytes zs)) (41 ∷ s))
      ∙ terms-run z zs s (here 4 left puts (letters ks) l) left puts ks l (λ w i. refl) a b (omega arith) (omega arith)
      ∙ sign-on (here 5 (left - suc (length zs)) true ns m) (here 8 (left - suc (length zs)) false ns m) 41 s refl (λ n. refl) (counted-read (left - suc (length zs)) true ns m e (λ t. let q = f t in omega arith)) refl

-- terms in brackets before other bytes
pub brackets : (zs : List ℤ) (s : List ℕ) → terms_bytes zs ++ s ≡ 40 ∷ (separated (44 ∷ []) (map term_bytes zs) ++ (41 ∷ s))
unfolding terms_bytes
brackets zs s = ap (λ x. 40 ∷ x) (append_assoc (separated (44 ∷ []) (map term_bytes zs)) (41 ∷ []) s)
