-- A head, an atom or a row, as it is written, is read into a line of its own.
use mathlib.Core.Path.{◌≡◌, refl, sym, ap, ◌∙◌}
use mathlib.Core.Bool.{Bool, true, false, cond}
use mathlib.Core.List.{List, [], ◌∷◌, ◌++◌, map}
use mathlib.Core.Logic.{◌⊎◌, ⊎_elim}
use Prim.Native.Nat.{ℕ, zero, suc, ◌-◌, ◌≤◌, ◌<◌}
use native.Mathlib.Omega.{arith}
use lib.Dec.{eqb, ltb, leb}
use lib.IntN.{ℤ, pos, negsuc}
use lib.ListN.{length}
use borrow.Author.Tests.{eq-eqb, ne_eqb, lt-ltb, leb-true}
use Rattle.list_laws.proofs.Order.{less?}
use Rattle.sheet_format.specs.Line.{Line, all}
use Rattle.sheet_format.specs.Limits.{most_variables, field_end}
use Rattle.sheet_format.specs.Cause.{or_out, is_term, is_constant, term_of, term, constant}
use Rattle.sheet_format.specs.Answers.{FieldTerm}
use Rattle.sheet_format.specs.Answers.FieldTerm.{Constant, Variable, OutOfRange}
use Rattle.sheet_format.proofs.Lists.{no_way, and_left, and_right, and_both}
use Rattle.sheet_format.specs.Table.{columns_of, ten}
use Rattle.text_buffer.specs.Words.{bytes}
use Rattle.text_begins.specs.Begins.{is_blank_byte, letter_of}
use Rattle.text_writer.specs.Texts.{word_bytes, term_bytes, separated, terms_bytes, relation_bytes}
use Rattle.text_writer.proofs.Parts.{far-relation}
use Rattle.text_meaning.specs.Tokens.{token_kind, is_in_word, joins, word_goes_on, behind, tokens}
use Rattle.text_meaning.specs.Names.{token_mark, relation_named}
use Rattle.text_meaning.specs.Places.{columns_in, next_block, start_at, open_at, term_expected, first_at, closed_by, close_at, colon_at, relation_at, atom_end_at, row_expected, any_rows_at, row_end_at, next_at, step_from, step}
use Rattle.text_meaning.specs.Reading.{Reading, field_for, grown, read, read_all}
use Rattle.text_meaning.specs.Control.{Control}
use Rattle.text_laws.specs.Numbered.{numbered_term, numbered_terms, known_behind}
use Rattle.text_laws.proofs.Written.{GoOn, digits_in_word, number_shows, far-back, relation-back}
use Rattle.text_laws.proofs.Terms.{reads, word_on, sign-on, ended, letters, Below, term_kind, term-token}
use Rattle.text_laws.proofs.Bracketed.{within, head-run, atom-run, brackets}

-- a reading at a place between lines; of where it stood before only the block counts
abbrev pub standing : ℕ → ℕ → Control → ℕ → List (List ℕ) → List Line → List ℕ → Reading
standing place block c line names ls starts = record {
  control = record { place = place; block = block; kind = c.kind; relation = c.relation; left = c.left; bare = c.bare; expected = 0; begins = c.begins; puts = c.puts };
  line = line;
  names = names;
  lines = ls;
  starts = starts;
}

-- a blank is skipped
pub blank-on : (p : Reading) (s : List ℕ) → reads p (32 ∷ s) ≡ reads p s
unfolding behind word_goes_on
blank-on p s = refl

-- ---- heads

-- a head's letter stands for the block that may follow
pub record HeadAt (block kind : ℕ) : Type 0 where
  pub mark : token_mark (letter_of kind ∷ []) ≡ record { kind = 97; letter = letter_of kind; value = 0 }
  pub apart : is_blank_byte (letter_of kind) ≡ false
  pub next : next_block block (letter_of kind) ≡ kind
  pub same : eqb (letter_of kind) (letter_of kind) ≡ true
  pub low : ltb kind 4 ≡ true
  pub no-atom : eqb kind 4 ≡ false
  pub no_row : eqb kind 5 ≡ false

module _ (block kind : ℕ) (h : HeadAt block kind) (c : Control) (line : ℕ) (ns : List (List ℕ)) (ls : List Line) (starts : List ℕ) where
  abbrev begun : Reading
  begun = record {
    control = record { place = 2; block = kind; kind = kind; relation = 0; left = 4; bare = false; expected = 0; begins = true; puts = false };
    line = line;
    names = [];
    lines = (pos kind ∷ []) ∷ ls;
    starts = line ∷ starts;
  }

  letter_read : read (standing 0 block c line ns ls starts) (letter_of kind ∷ []) ≡ begun
  unfolding read step step_from start_at
  letter_read = rw (h.mark, h.next, h.same, h.low)

  open_read : read begun (40 ∷ []) ≡ within 3 kind kind 0 4 false line [] (pos kind ∷ []) ls (line ∷ starts)
  unfolding read step step_from open_at token_mark token_kind
  open_read = rw h.no-atom

  colon_read : (left : ℕ) (ns : List (List ℕ)) (l : Line) → read (within 6 kind kind 0 left false line ns l ls (line ∷ starts)) (58 ∷ []) ≡ within 7 kind kind 0 left false line ns l ls (line ∷ starts)
  unfolding read step step_from colon_at token_mark token_kind
  colon_read left ns l = refl

  -- a head, from the start of a line (0) to its atoms (7)
  pub head-line : (zs : List ℤ) (s : List ℕ) → all term zs ≡ true → length zs ≤ 4
      → reads (standing 0 block c line ns ls starts) (letter_of kind ∷ (terms_bytes zs ++ (58 ∷ s)))
      ≡ reads (within 7 kind kind 0 (4 - length zs) false line (letters (known_behind [] zs)) (pos kind ∷ numbered_terms [] zs) ls (line ∷ starts)) s
  unfolding joins token_kind
  head-line zs s a k =
      let inner = separated (44 ∷ []) (map term_bytes zs) ++ (41 ∷ 58 ∷ s) in
      ap (λ x. reads (standing 0 block c line ns ls starts) (letter_of kind ∷ x)) (brackets zs (58 ∷ s))
      ∙ word_on (standing 0 block c line ns ls starts) begun (letter_of kind) [] (40 ∷ inner) h.apart tt (ended (token_kind (letter_of kind)) 40 refl) letter_read refl
      ∙ sign-on begun (within 3 kind kind 0 4 false line [] (pos kind ∷ []) ls (line ∷ starts)) 40 inner refl (λ n. refl) open_read refl
      ∙ head-run kind kind 0 line ls (line ∷ starts) false zs (58 ∷ s) false [] (pos kind ∷ []) h.no-atom h.no_row a tt k (omega arith)
      ∙ sign-on (within 6 kind kind 0 (4 - length zs) false line (letters (known_behind [] zs)) (pos kind ∷ numbered_terms [] zs) ls (line ∷ starts))
      (within 7 kind kind 0 (4 - length zs) false line (letters (known_behind [] zs)) (pos kind ∷ numbered_terms [] zs) ls (line ∷ starts)) 58 s refl (λ n. refl)
      (colon_read (4 - length zs) (letters (known_behind [] zs)) (pos kind ∷ numbered_terms [] zs)) refl

-- ---- atoms

-- a relation's name as a token
record Name (r : ℕ) : Type 0 where
  first : ℕ
  more : List ℕ
  named : relation_bytes r ≡ first ∷ more
  apart : is_blank_byte first ≡ false
  on : GoOn (token_kind first) more
  kind : (token_mark (first ∷ more)).kind ≡ 65
  value : (token_mark (first ∷ more)).value ≡ r

name_by : (r a : ℕ) (w : List ℕ) → 0 < r → r ≤ 10 → relation_bytes r ≡ a ∷ w → is_blank_byte a ≡ false → token_kind a ≡ 65 → GoOn 65 w → Name r
unfolding token_mark
name_by r a w l h e b k g = record { first = a; more = w; named = e; apart = b; on = rw k g; kind = k; value = rw k (ap relation_named (sym e) ∙ relation-back r l h) }

ten-token : (r : ℕ) → 0 < r → r ≤ 10 → Name r
unfolding relation_bytes token_kind joins
ten-token zero l h = absurd (omega arith)
ten-token (suc zero) l h = name_by 1 82 (bytes "ower") l h refl refl refl (refl, (refl, (refl, (refl, tt))))
ten-token (suc (suc zero)) l h = name_by 2 83 (bytes "trap") l h refl refl refl (refl, (refl, (refl, (refl, tt))))
ten-token (suc (suc (suc zero))) l h = name_by 3 87 (bytes "orn") l h refl refl refl (refl, (refl, (refl, tt)))
ten-token (suc (suc (suc (suc zero)))) l h = name_by 4 83 (bytes "ig") l h refl refl refl (refl, (refl, tt))
ten-token (suc (suc (suc (suc (suc zero))))) l h = name_by 5 66 (bytes "eat") l h refl refl refl (refl, (refl, (refl, tt)))
ten-token (suc (suc (suc (suc (suc (suc zero)))))) l h = name_by 6 78 (bytes "oise") l h refl refl refl (refl, (refl, (refl, (refl, tt))))
ten-token (suc (suc (suc (suc (suc (suc (suc zero))))))) l h = name_by 7 80 (bytes "ulse") l h refl refl refl (refl, (refl, (refl, (refl, tt))))
ten-token (suc (suc (suc (suc (suc (suc (suc (suc zero)))))))) l h = name_by 8 67 (bytes "oach") l h refl refl refl (refl, (refl, (refl, (refl, tt))))
ten-token (suc (suc (suc (suc (suc (suc (suc (suc (suc zero))))))))) l h = name_by 9 83 (bytes "eat") l h refl refl refl (refl, (refl, (refl, tt)))
ten-token (suc (suc (suc (suc (suc (suc (suc (suc (suc (suc zero)))))))))) l h = name_by 10 80 (bytes "ause") l h refl refl refl (refl, (refl, (refl, (refl, tt))))
ten-token (suc (suc (suc (suc (suc (suc (suc (suc (suc (suc (suc n))))))))))) l h = absurd (omega arith)

-- one beyond the ten is a letter and its number
far-token : (r : ℕ) → 10 < r → r < field_end → Name r
unfolding token_mark token_kind
far-token r l h = record {
  first = 82;
  more = word_bytes (pos r);
  named = sym (far-relation r l) ∙ rw (lt-ltb r field_end h);
  apart = refl;
  on = digits_in_word (word_bytes (pos r)) (number_shows r h).digits;
  kind = refl;
  value = far-back r l h;
}

name-token : (r : ℕ) → 0 < r → r < field_end → Name r
name-token r l h = ⊎_elim (λ n. ten-token r l (omega arith)) (λ n. far-token r (omega arith) h) (less? r 11)

module _ (block relation : ℕ) (some : 0 < relation) (short : relation < field_end) (c : Control) (line : ℕ) (ls : List Line) (starts : List ℕ) where
  abbrev atom_begun : List (List ℕ) → Reading
  atom_begun ns = record {
    control = record { place = 2; block = block; kind = 4; relation = relation; left = columns_in relation; bare = false; expected = 0; begins = true; puts = true };
    line = line;
    names = ns;
    lines = (pos 4 ∷ pos relation ∷ []) ∷ ls;
    starts = line ∷ starts;
  }

  name-read : (ns : List (List ℕ)) (w : List ℕ) → (token_mark w).kind ≡ 65 → (token_mark w).value ≡ relation → read (standing 7 block c line ns ls starts) w ≡ atom_begun ns
  unfolding read step step_from relation_at grown
  name-read ns w k v = rw (k, v, ne_eqb relation 0 (λ e. omega arith))

  atom_open_read : (ns : List (List ℕ)) → read (atom_begun ns) (40 ∷ []) ≡ within 4 block 4 relation (columns_in relation) false line ns (pos 4 ∷ pos relation ∷ []) ls (line ∷ starts)
  unfolding read step step_from open_at token_mark token_kind
  atom_open_read ns = refl

  -- as many columns may come as the atom has, or more where they are not known
  known-columns : (n : ℕ) → (relation ≤ 10 → columns_of ten (pos relation) ≡ n) → n ≤ 4 → (leb relation 10 ≡ true → columns_in relation ≡ n) × (n ≤ columns_in relation)
  unfolding columns_in
  known-columns n e h = by (leb relation 10) refl
    where
      by : (t : Bool) → leb relation 10 ≡ t → (t ≡ true → cond t (columns_of ten (pos relation)) 4 ≡ n) × (n ≤ cond t (columns_of ten (pos relation)) 4)
      by true i = let q = e (leb-true relation 10 i) in (λ j. q, omega arith)
      by false i = (λ j. no_way j, h)

  -- an atom, from where a relation is due (7) to behind it (8)
  pub atom-line : (zs : List ℤ) (s : List ℕ) (ks : List ℕ) → all term zs ≡ true → Below ks → (relation ≤ 10 → columns_of ten (pos relation) ≡ length zs) → 0 < length zs → length zs ≤ 4
      → reads (standing 7 block c line (letters ks) ls starts) (relation_bytes relation ++ (terms_bytes zs ++ s))
      ≡ reads (within 8 block 4 relation (columns_in relation - length zs) false line (letters (known_behind ks zs)) (pos 4 ∷ pos relation ∷ numbered_terms ks zs) ls (line ∷ starts)) s
  unfolding joins token_kind
  atom-line zs s ks a b e i k =
      let n = name-token relation some short in
      let inner = separated (44 ∷ []) (map term_bytes zs) ++ (41 ∷ s) in
      let p = standing 7 block c line (letters ks) ls starts in
      let m = known-columns (length zs) e k in
      ap (λ x. reads p (relation_bytes relation ++ x)) (brackets zs s)
      ∙ ap (λ x. reads p (x ++ (40 ∷ inner))) n.named
      ∙ word_on p (atom_begun (letters ks)) n.first n.more (40 ∷ inner) n.apart n.on (ended (token_kind n.first) 40 refl) (name-read (letters ks) (n.first ∷ n.more) n.kind n.value) refl
      ∙ sign-on (atom_begun (letters ks)) (within 4 block 4 relation (columns_in relation) false line (letters ks) (pos 4 ∷ pos relation ∷ []) ls (line ∷ starts)) 40 inner refl (λ n. refl) (atom_open_read (letters ks)) refl
      ∙ atom-run block 4 relation line ls (line ∷ starts) (columns_in relation) zs s false ks (pos 4 ∷ pos relation ∷ []) refl m.0 a b i m.1 k (omega arith)

-- ---- behind an atom

module _ (block relation left line : ℕ) (ns : List (List ℕ)) (l : Line) (ls : List Line) (starts : List ℕ) where
  abbrev behind_atom : ℕ → ℕ → Reading
  behind_atom place line = within place block 4 relation left false line ns l ls starts

  -- another atom
  pub atom-next : (s : List ℕ) → reads (behind_atom 8 line) (44 ∷ s) ≡ reads (behind_atom 7 line) s
  unfolding joins token_kind read step step_from atom_end_at token_mark
  atom-next s = sign-on (behind_atom 8 line) (behind_atom 7 line) 44 s refl (λ n. refl) refl refl

  -- a view's rows
  pub rows_next : (s : List ℕ) → block ≡ 3 → reads (behind_atom 8 line) (61 ∷ s) ≡ reads (behind_atom 9 line) s
  unfolding joins token_kind read step step_from atom_end_at token_mark
  rows_next s e = sign-on (behind_atom 8 line) (behind_atom 9 line) 61 s refl (λ n. refl) (rw (eq-eqb block 3 e)) refl

  -- the end of the line, of a view without rows
  pub no_rows : (s : List ℕ) → reads (behind_atom 9 line) (10 ∷ s) ≡ reads (behind_atom 0 (suc line)) s
  unfolding joins token_kind read step step_from any_rows_at token_mark
  no_rows s = sign-on (behind_atom 9 line) (behind_atom 0 (suc line)) 10 s refl (λ n. refl) refl refl

  -- or of any other block
  pub block-end : (s : List ℕ) → (block ≡ 3 → ⊥) → reads (behind_atom 8 line) (10 ∷ s) ≡ reads (behind_atom 0 (suc line)) s
  unfolding joins token_kind read step step_from atom_end_at token_mark
  block-end s h = sign-on (behind_atom 8 line) (behind_atom 0 (suc line)) 10 s refl (λ n. refl) (rw (ne_eqb block 3 h)) refl

-- ---- rows

-- another row (";", 59) or the end of the line, and the place (10 or 0) and the line behind it
abbrev pub end_sign : Bool → ℕ
end_sign more = cond more 59 10

abbrev pub end_place : Bool → ℕ
end_place more = cond more 10 0

abbrev pub end_line : Bool → ℕ → ℕ
end_line more line = cond more line (suc line)

-- readings that read every token alike
alike : (p q : Reading) → ((w : List ℕ) → read p w ≡ read q w) → (s : List ℕ) → reads p s ≡ reads q s
unfolding read_all
alike p q h s = by (tokens s)
  where
    by : (ws : List (List ℕ)) → read_all p (ws ++ ([] ∷ [])) ≡ read_all q (ws ++ ([] ∷ []))
    by [] = rw (h [])
    by (w ∷ ws) = rw (h w)

-- a row's values: bare where there is one, in brackets where there are more or none
abbrev pub row_values : List ℤ → List ℕ
row_values [] = terms_bytes []
row_values (z ∷ []) = term_bytes z
row_values (z ∷ y ∷ zs) = terms_bytes (z ∷ y ∷ zs)

-- constants stay as they are
pub constants-kept : (zs : List ℤ) (ks : List ℕ) → all constant zs ≡ true → (numbered_terms ks zs ≡ zs) × (known_behind ks zs ≡ ks)
unfolding numbered_terms known_behind term_of
constants-kept [] ks e = (refl, refl)
constants-kept (pos n ∷ zs) ks e = let r = constants-kept zs ks (and_right (constant (pos n)) (all constant zs) e) in (ap (λ x. pos n ∷ x) r.0, r.1)
constants-kept (negsuc v ∷ zs) ks e = by (ltb v most_variables) (and_left (constant (negsuc v)) (all constant zs) e)
  where
    by : {A : Type 0} (t : Bool) → is_constant (or_out t (Variable (suc v))) ≡ true → A
    by true i = no_way i
    by false i = no_way i

constant-term : (z : ℤ) → constant z ≡ true → term z ≡ true
constant-term z e = by (term_of z) e
  where
    by : (f : FieldTerm) → is_constant f ≡ true → is_term f ≡ true
    by (Constant n) i = refl
    by (Variable n) i = no_way i
    by OutOfRange i = no_way i

constant-terms : (zs : List ℤ) → all constant zs ≡ true → all term zs ≡ true
constant-terms [] e = refl
constant-terms (z ∷ zs) e = and_both (term z) (all term zs) (constant-term z (and_left (constant z) (all constant zs) e)) (constant-terms zs (and_right (constant z) (all constant zs) e))

constant-kind : (z : ℤ) → constant z ≡ true → term_kind z ≡ 48
unfolding term_of
constant-kind (pos n) e = refl
constant-kind (negsuc v) e = by (ltb v most_variables) e
  where
    by : {A : Type 0} (t : Bool) → is_constant (or_out t (Variable (suc v))) ≡ true → A
    by true i = no_way i
    by false i = no_way i

module _ (block place : ℕ) (due : (place ≡ 9) ⊎ (place ≡ 10)) (c : Control) (line : ℕ) (ls : List Line) (starts : List ℕ) where
  abbrev due_here : List (List ℕ) → Reading
  due_here ns = standing place block c line ns ls starts

  -- ---- in brackets

  abbrev row_begun : List (List ℕ) → Reading
  row_begun ns = record {
    control = record { place = 3; block = block; kind = 5; relation = 0; left = 4; bare = false; expected = 0; begins = true; puts = false };
    line = line;
    names = ns;
    lines = (pos 5 ∷ []) ∷ ls;
    starts = line ∷ starts;
  }

  row_open_read : (ns : List (List ℕ)) → read (due_here ns) (40 ∷ []) ≡ row_begun ns
  unfolding read step step_from any_rows_at row_expected token_mark token_kind
  row_open_read ns = ⊎_elim (λ e. rw e) (λ e. rw e) due

  row-alike : (ns : List (List ℕ)) (w : List ℕ) → read (row_begun ns) w ≡ read (within 3 block 5 0 4 false line ns (pos 5 ∷ []) ls (line ∷ starts)) w
  unfolding read step step_from first_at term_expected close_at closed_by
  row-alike ns w = refl

  row-end-read : (more : Bool) (left : ℕ) (ns : List (List ℕ)) (l : Line)
      → read (within 11 block 5 0 left false line ns l ls (line ∷ starts)) (end_sign more ∷ []) ≡ within (end_place more) block 5 0 left false (end_line more line) ns l ls (line ∷ starts)
  unfolding read step step_from row_end_at token_mark token_kind
  row-end-read true left ns l = refl
  row-end-read false left ns l = refl

  sign-ends : (more : Bool) → (is_blank_byte (end_sign more) ≡ false) × ((n : ℕ) → joins (token_kind (end_sign more)) n ≡ false)
  unfolding joins token_kind
  sign-ends true = (refl, λ n. refl)
  sign-ends false = (refl, λ n. refl)

  bracketed_row : (zs : List ℤ) (s : List ℕ) (ks : List ℕ) (more : Bool) → all constant zs ≡ true → Below ks → length zs ≤ 4
      → reads (due_here (letters ks)) (terms_bytes zs ++ (end_sign more ∷ s))
      ≡ reads (within (end_place more) block 5 0 (4 - length zs) false (end_line more line) (letters ks) (pos 5 ∷ zs) ls (line ∷ starts)) s
  unfolding joins token_kind
  bracketed_row zs s ks more a b k =
      let inner = separated (44 ∷ []) (map term_bytes zs) ++ (41 ∷ end_sign more ∷ s) in
      let r = constants-kept zs ks a in
      let e = sign-ends more in
      ap (reads (due_here (letters ks))) (brackets zs (end_sign more ∷ s))
      ∙ sign-on (due_here (letters ks)) (row_begun (letters ks)) 40 inner refl (λ n. refl) (row_open_read (letters ks)) refl
      ∙ alike (row_begun (letters ks)) (within 3 block 5 0 4 false line (letters ks) (pos 5 ∷ []) ls (line ∷ starts)) (row-alike (letters ks)) inner
      ∙ head-run block 5 0 line ls (line ∷ starts) true zs (end_sign more ∷ s) false ks (pos 5 ∷ []) refl refl (constant-terms zs a) b k (omega arith)
      ∙ ap (λ x. reads (within 11 block 5 0 (4 - length zs) false line (letters x) (pos 5 ∷ numbered_terms ks zs) ls (line ∷ starts)) (end_sign more ∷ s)) r.1
      ∙ ap (λ x. reads (within 11 block 5 0 (4 - length zs) false line (letters ks) (pos 5 ∷ x) ls (line ∷ starts)) (end_sign more ∷ s)) r.0
      ∙ sign-on (within 11 block 5 0 (4 - length zs) false line (letters ks) (pos 5 ∷ zs) ls (line ∷ starts))
      (within (end_place more) block 5 0 (4 - length zs) false (end_line more line) (letters ks) (pos 5 ∷ zs) ls (line ∷ starts)) (end_sign more) s e.0 e.1
      (row-end-read more (4 - length zs) (letters ks) (pos 5 ∷ zs)) refl

  -- ---- bare

  abbrev bare : List (List ℕ) → ℤ → Reading
  bare ns z = record {
    control = record { place = 5; block = block; kind = 5; relation = 0; left = 3; bare = true; expected = 0; begins = true; puts = true };
    line = line;
    names = ns;
    lines = (pos 5 ∷ z ∷ []) ∷ ls;
    starts = line ∷ starts;
  }

  abbrev bare_control : Control
  bare_control = record { place = 5; block = block; kind = 5; relation = 0; left = 3; bare = true; expected = 0; begins = false; puts = false }

  value_read : (ns : List (List ℕ)) (w : List ℕ) → (token_mark w).kind ≡ 48 → read (due_here ns) w ≡ bare ns (field_for (token_mark w) w ns)
  unfolding read step step_from any_rows_at row_expected grown
  value_read ns w k = ⊎_elim (λ e. ap at e ∙ first) (λ e. ap at e ∙ next) due
    where
      at : ℕ → Reading
      at x = read (standing x block c line ns ls starts) w

      first : read (standing 9 block c line ns ls starts) w ≡ bare ns (field_for (token_mark w) w ns)
      first = rw k

      next : read (standing 10 block c line ns ls starts) w ≡ bare ns (field_for (token_mark w) w ns)
      next = rw k

  bare-end-read : (more : Bool) (ns : List (List ℕ)) (z : ℤ) → read (bare ns z) (end_sign more ∷ []) ≡ standing (end_place more) block bare_control (end_line more line) ns ((pos 5 ∷ z ∷ []) ∷ ls) (line ∷ starts)
  unfolding read step step_from next_at row_end_at token_mark token_kind
  bare-end-read true ns z = refl
  bare-end-read false ns z = refl

  in-no-word : (more : Bool) → is_in_word (token_kind (end_sign more)) ≡ false
  unfolding token_kind
  in-no-word true = refl
  in-no-word false = refl

  bare-row : (z : ℤ) (s : List ℕ) (ks : List ℕ) (more : Bool) → constant z ≡ true → Below ks
      → reads (due_here (letters ks)) (term_bytes z ++ (end_sign more ∷ s))
      ≡ reads (standing (end_place more) block bare_control (end_line more line) (letters ks) ((pos 5 ∷ z ∷ []) ∷ ls) (line ∷ starts)) s
  bare-row z s ks more a b =
      let t = term-token z ks (constant-term z a) b in
      let e = sign-ends more in
      let w = t.first ∷ t.more in
      let f : field_for (token_mark w) w (letters ks) ≡ z = t.field ∙ constant-kept z ks a in
      ap (λ x. reads (due_here (letters ks)) (x ++ (end_sign more ∷ s))) t.bytes
      ∙ word_on (due_here (letters ks)) (bare (letters ks) (field_for (token_mark w) w (letters ks))) t.first t.more (end_sign more ∷ s) t.apart t.on (ended (token_kind t.first) (token_kind (end_sign more)) (in-no-word more))
      (value_read (letters ks) w (t.kind ∙ constant-kind z a)) refl
      ∙ ap (λ x. reads (bare (letters ks) x) (end_sign more ∷ s)) f
      ∙ sign-on (bare (letters ks) z) (standing (end_place more) block bare_control (end_line more line) (letters ks) ((pos 5 ∷ z ∷ []) ∷ ls) (line ∷ starts)) (end_sign more) s e.0 e.1 (bare-end-read more (letters ks) z) refl
    where
      constant-kept : (z : ℤ) (ks : List ℕ) → constant z ≡ true → numbered_term ks z ≡ z
      constant-kept (pos n) ks a = refl
      constant-kept (negsuc v) ks a = absurd (let q = constant-kind (negsuc v) a in omega arith)

  -- ---- a row, from where one is due to where the next one or the next block is

  pub row-line : (zs : List ℤ) (s : List ℕ) (ks : List ℕ) (more : Bool) → all constant zs ≡ true → Below ks → length zs ≤ 4
      → (d : Control) × (reads (due_here (letters ks)) (row_values zs ++ (end_sign more ∷ s)) ≡ reads (standing (end_place more) block d (end_line more line) (letters ks) ((pos 5 ∷ zs) ∷ ls) (line ∷ starts)) s)
  row-line [] s ks more a b k = ((within 0 block 5 0 4 false line [] [] ls starts).control, bracketed_row [] s ks more a b k)
  row-line (z ∷ []) s ks more a b k = (bare_control, bare-row z s ks more (and_left (constant z) true a) b)
  row-line (z ∷ y ∷ zs) s ks more a b k = ((within 0 block 5 0 (4 - length (z ∷ y ∷ zs)) false line [] [] ls starts).control, bracketed_row (z ∷ y ∷ zs) s ks more a b k)
