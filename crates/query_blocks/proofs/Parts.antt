-- Each number of a block by its word, the search for its head, and the count of its atoms. Assumes nothing.
use mathlib.Core.Path.{◌≡◌, refl, sym, ap, ◌∙◌, subst}
use mathlib.Core.Bool.{Bool, true, false, cond}
use mathlib.Core.List.{List, [], ◌∷◌, map}
use Prim.Native.Nat.{ℕ, zero, suc, ◌+◌, ◌-◌, ◌*◌, ◌/◌, ◌%◌, ◌≤◌, ◌<◌}
use native.Mathlib.Omega.{arith}
use lib.IntN.{ℤ, pos}
use lib.ListN.{length, drop, get_or, drop_of_length-le, length-drop, length-map, get_or-map}
use lib.Seq.{get_or-drop}
use borrow.Author.Tests.{lt-ltb, le-ltb, eq-eqb, ne_eqb}
use Rattle.query_layout.specs.Layout.{block_head, block_width}
use Rattle.sheet_format.specs.Limits.{most_atoms}
use Rattle.list_laws.proofs.Lists.{drop-next}
use Rattle.sheet_format.proofs.WordLines.{lines-length}
use Rattle.sheet_format.specs.Line.{Line, null, natural, word_lines}
use Rattle.sheet_format.specs.Table.{Table}
use Rattle.sheet_format.specs.Cause.{kind_of, kind, rest, second, terms, is_head, is_atom, atoms, refusal_of}
use Rattle.query_meaning.specs.Blocks.{View, as_term, atom_of, block_of, view_of, blocks, all_blocks, nth, block_at}
use Rattle.query_encoding.specs.Encoding.{term_number, term_at, atom_at, BlockNumbers, has_block, BlockFound}
use Rattle.sheet_format.proofs.Lists.{no_way}
use Rattle.query_blocks.proofs.Accepted.{accepted-clean}
use Rattle.query_blocks.proofs.Shape.{is_nth, block_nth, block_at-block_nth, blocks-head, blocks-other, nth-first, nth_past, no-nth, accepted-fine, accepted-shaped}
use Rattle.query_blocks.proofs.Words.{kind-word, second_word, rest-word, term-word}
use Rattle.query_blocks.specs.Parts.{AcceptedLines, HeadAt, term_number_at, entry_of}

-- ---- a number by its place

module _ (ws : List ℤ) (h x : ℕ) where
  pub entry-relation : x < block_head → x % 5 ≡ 0 → natural (get_or ws (7 * (h + 1 + x / 5) + 2) (pos 0)) ≡ entry_of ws h x
  unfolding entry_of
  entry-relation lt e = rw (lt-ltb x block_head lt, eq-eqb (x % 5) 0 e) refl

  pub entry-term : x < block_head → (x % 5 ≡ 0 → ⊥) → term_number_at ws (7 * (h + 1 + x / 5) + 2 + x % 5) ≡ entry_of ws h x
  unfolding entry_of
  entry-term lt e = rw (lt-ltb x block_head lt, ne_eqb (x % 5) 0 e) refl

  pub entry-head : block_head ≤ x → term_number_at ws (7 * h + 2 + (x - block_head)) ≡ entry_of ws h x
  unfolding entry_of
  entry-head le = rw (le-ltb x block_head le) refl

-- ---- lines

module _ (ws : List ℤ) (i : ℕ) (lt : i < length ws / 7) (a : AcceptedLines (word_lines ws)) where
  pub inside : i < length (word_lines ws)
  inside = let e = lines-length ws in omega arith

  pub formed : null (get_or (word_lines ws) i []) ≡ false
  formed = (accepted-clean a.0 (word_lines ws) a.1 i inside).1.formed

  pub kind_is : kind (get_or (word_lines ws) i []) ≡ kind_of (get_or ws (7 * i + 1) (pos 0))
  kind_is = kind-word ws i lt formed

-- ---- the search for a head

-- block m from line i on is block k of all
pub record Left (ls : List Line) (k i m : ℕ) : Type 0 where
  pub found : has_block (drop i ls) m ≡ has_block ls k
  pub block : block_at (drop i ls) m ≡ block_at ls k

pub left-start : (ls : List Line) (k : ℕ) → Left ls k 0 k
left-start ls k = record { found = refl; block = refl }

-- the block whose head is line i
this : List Line → ℕ → View
this ls i = view_of (get_or ls i []) (drop (i + 1) ls)

module _ (ls : List Line) (k i : ℕ) (lt : i < length ls) where
  pub left_other : (m : ℕ) → is_head (kind (get_or ls i [])) ≡ false → Left ls k i m → Left ls k (i + 1) m
  left_other m h f =
      let e : all_blocks (drop i ls) ≡ all_blocks (drop (i + 1) ls) = ap all_blocks (drop-next ls i [] lt) ∙ blocks-other (get_or ls i []) (drop (i + 1) ls) h in
      record {
        found = ap (λ vs. is_nth vs m) (sym e) ∙ f.found;
        block = block_at-block_nth (drop (i + 1) ls) m ∙ ap (λ vs. block_nth vs m) (sym e) ∙ sym (block_at-block_nth (drop i ls) m) ∙ f.block;
      }

  at_head : is_head (kind (get_or ls i [])) ≡ true → all_blocks (drop i ls) ≡ this ls i ∷ all_blocks (drop (i + 1) ls)
  unfolding this
  at_head h = ap all_blocks (drop-next ls i [] lt) ∙ blocks-head (get_or ls i []) (drop (i + 1) ls) h

  pub left-past : (m : ℕ) → 1 ≤ m → (m ≡ 1 → ⊥) → is_head (kind (get_or ls i [])) ≡ true → Left ls k i m → Left ls k (i + 1) (m - 1)
  left-past zero le ne h f = absurd (omega arith)
  left-past (suc zero) le ne h f = absurd (ne refl)
  left-past (suc (suc q)) le ne h f =
      let e = at_head h in
      let w : suc (suc q) - 1 ≡ suc q = omega arith in
      subst (λ m. Left ls k (i + 1) m) (sym w)
      (record {
        found = sym (nth_past (this ls i) (all_blocks (drop (i + 1) ls)) q) ∙ ap (λ vs. is_nth vs (suc (suc q))) (sym e) ∙ f.found;
        block = ap (λ vs. (nth vs (suc q)).block) (sym e) ∙ f.block;
      })

  pub left_here : is_head (kind (get_or ls i [])) ≡ true → Left ls k i 1 → HeadAt ls k i
  unfolding this
  left_here h f =
      let e = at_head h in
      record {
        here = λ _. (sym f.found ∙ ap (λ vs. is_nth vs 1) e ∙ nth-first (this ls i) (all_blocks (drop (i + 1) ls)), sym f.block ∙ ap (λ vs. (nth vs 0).block) e);
        nowhere = λ le. absurd (omega arith);
      }

no_blocks : all_blocks [] ≡ []
unfolding blocks
no_blocks = refl

pub left_end : (ls : List Line) (k i m : ℕ) → length ls ≤ i → Left ls k i m → HeadAt ls k i
left_end ls k i m le f =
    let e : all_blocks (drop i ls) ≡ [] = ap all_blocks (drop_of_length-le ls le) ∙ no_blocks in
    record {
      here = λ lt. absurd (omega arith);
      nowhere = λ _. sym f.found ∙ ap (λ vs. is_nth vs m) e ∙ no-nth m;
    }

-- ---- the count of atoms

module _ (ls : List Line) (i : ℕ) where
  pub no-atom : i < length ls → is_atom (kind (get_or ls i [])) ≡ false → length (atoms (drop i ls)) ≡ 0
  unfolding atoms
  no-atom lt e = rw (drop-next ls i [] lt, e) refl

  one-atom : i < length ls → is_atom (kind (get_or ls i [])) ≡ true → length (atoms (drop i ls)) ≡ suc (length (atoms (drop (i + 1) ls)))
  unfolding atoms
  one-atom lt e = rw (drop-next ls i [] lt, e) refl

  pub past-atoms : length ls ≤ i → length (atoms (drop i ls)) ≡ 0
  unfolding atoms
  past-atoms le = rw (drop_of_length-le ls le) refl

pub count-start : (ls : List Line) (from : ℕ) → length (atoms (drop from ls)) ≡ 0 + length (atoms (drop (from + 0) ls))
count-start ls from =
    let e : from + 0 ≡ from = omega arith in
    rw e (omega arith)

pub count-on : (ls : List Line) (from j : ℕ) → from + j < length ls → is_atom (kind (get_or ls (from + j) [])) ≡ true → length (atoms (drop from ls)) ≡ j + length (atoms (drop (from + j) ls))
    → length (atoms (drop from ls)) ≡ j + 1 + length (atoms (drop (from + (j + 1)) ls))
count-on ls from j lt t e =
    let f = one-atom ls (from + j) lt t in
    let q : from + (j + 1) ≡ from + j + 1 = omega arith in
    rw q (omega arith)

-- the atoms are the lines at the front
atoms_get : (ls : List Line) (j : ℕ) → j < length (atoms ls) → (j < length ls) × (get_or (atoms ls) j [] ≡ get_or ls j [])
unfolding atoms
atoms_get [] j lt = absurd (omega arith)
atoms_get (l ∷ ls) j lt = go (atoms_get ls) (is_atom (kind l)) j lt
  where
    go : ((j : ℕ) → j < length (atoms ls) → (j < length ls) × (get_or (atoms ls) j [] ≡ get_or ls j [])) → (t : Bool) (j : ℕ) → j < length (cond t (l ∷ atoms ls) [])
        → (j < length (l ∷ ls)) × (get_or (cond t (l ∷ atoms ls) []) j [] ≡ get_or (l ∷ ls) j [])
    go ih false j lt = absurd (omega arith)
    go ih true zero lt = (omega arith, refl)
    go ih true (suc j) lt = let (a, b) = ih j (omega arith) in (omega arith, b)

-- ---- the block

-- the atoms of the block whose head is line h
after : List ℤ → ℕ → List Line
after ws h = atoms (drop (h + 1) (word_lines ws))

-- a list of words as terms, at a place
term-at : (ts : List ℤ) (c : ℕ) → term_number (as_term (get_or ts c (pos 0))) ≡ term_number (term_at (map as_term ts) c)
term-at ts c = ap term_number (sym (get_or-map as_term ts c (pos 0)))

module _ (ws : List ℤ) (h : ℕ) (lt : h < length ws / 7) (a : AcceptedLines (word_lines ws)) (blk : List ℕ) (each : (x : ℕ) → x < block_width → get_or blk x 0 ≡ entry_of ws h x) where
  -- atom j is line h + 1 + j
  atom-inside : (j : ℕ) → j < length (after ws h) → h + 1 + j < length ws / 7
  unfolding after
  atom-inside j k =
      let p = (atoms_get (drop (h + 1) (word_lines ws)) j k).0 in
      let d = length-drop (h + 1) (word_lines ws) in
      let n = lines-length ws in
      omega arith

  atom-line : (j : ℕ) → j < length (after ws h) → atom_of (get_or (word_lines ws) (h + 1 + j) []) ≡ atom_at (map atom_of (after ws h)) j
  unfolding after
  atom-line j k =
      ap atom_of (sym ((atoms_get (drop (h + 1) (word_lines ws)) j k).1 ∙ get_or-drop (h + 1) (word_lines ws) j []))
      ∙ sym (get_or-map atom_of (after ws h) j [])

  relation-word : (j : ℕ) → j < most_atoms → h + 1 + j < length ws / 7 → get_or blk (j * 5) 0 ≡ natural (second (get_or (word_lines ws) (h + 1 + j) []))
  relation-word j few p =
      let e : j * 5 / 5 ≡ j = omega arith in
      each (j * 5) (omega arith)
      ∙ sym (entry-relation ws h (j * 5) (omega arith) (omega arith))
      ∙ ap (λ n. natural (get_or ws (7 * (h + 1 + n) + 2) (pos 0))) e
      ∙ ap natural (sym (second_word ws (h + 1 + j) p (formed ws (h + 1 + j) p a)))

  term-place : (j : ℕ) → j < most_atoms → h + 1 + j < length ws / 7 → (c : ℕ) → c < 4 → get_or blk (j * 5 + 1 + c) 0 ≡ term_number (term_at (map as_term (terms (get_or (word_lines ws) (h + 1 + j) []))) c)
  term-place j few p c four =
      let e : 7 * (h + 1 + (j * 5 + 1 + c) / 5) + 2 + (j * 5 + 1 + c) % 5 ≡ 7 * (h + 1 + j) + 3 + c = omega arith in
      each (j * 5 + 1 + c) (omega arith)
      ∙ sym (entry-term ws h (j * 5 + 1 + c) (omega arith) (λ z. omega arith))
      ∙ ap (term_number_at ws) e
      ∙ ap (λ z. term_number (as_term z)) (sym (term-word ws (h + 1 + j) p (formed ws (h + 1 + j) p a) c four))
      ∙ term-at (terms (get_or (word_lines ws) (h + 1 + j) [])) c

  head-place : (p : ℕ) → p < 4 → get_or blk (block_head + p) 0 ≡ term_number (term_at (map as_term (rest (get_or (word_lines ws) h []))) p)
  head-place p four =
      let e : 7 * h + 2 + (block_head + p - block_head) ≡ 7 * h + 2 + p = omega arith in
      each (block_head + p) (omega arith)
      ∙ sym (entry-head ws h (block_head + p) (omega arith))
      ∙ ap (term_number_at ws) e
      ∙ ap (λ z. term_number (as_term z)) (sym (rest-word ws h lt (formed ws h lt a) p (omega arith)))
      ∙ term-at (rest (get_or (word_lines ws) h [])) p

  pub block-numbers : (n : ℕ) → length blk ≡ block_width → length (atoms (drop (h + 1) (word_lines ws))) ≤ most_atoms → n ≡ length (atoms (drop (h + 1) (word_lines ws)))
      → BlockNumbers blk n (block_of (get_or (word_lines ws) h []) (drop (h + 1) (word_lines ws)))
  unfolding after
  block-numbers n s few e =
      record {
        size = s;
        count = simp length-map e;
        few = omega arith;
        relation = λ j k. relation-word j (omega arith) (atom-inside j (omega arith)) ∙ ap (λ b. b.rel) (atom-line j (omega arith));
        columns = λ j k c four. term-place j (omega arith) (atom-inside j (omega arith)) c four ∙ ap (λ b. term_number (term_at b.terms c)) (atom-line j (omega arith));
        head = head-place;
      }

pub found-block : (table : Table) (ws : List ℤ) (k h n : ℕ) (blk : List ℕ) → (refusal_of table (word_lines ws)).number ≡ 0 → h < length ws / 7 → HeadAt (word_lines ws) k h → length blk ≡ block_width → ((x : ℕ) → x < block_width → get_or blk x 0 ≡ entry_of ws h x)
    → (length (atoms (drop (h + 1) (word_lines ws))) ≤ most_atoms → n ≡ length (atoms (drop (h + 1) (word_lines ws)))) → BlockFound table (word_lines ws) k true n blk
found-block table ws k h n blk a lt f s each count =
    let (i, e) = f.here (inside ws h lt (table, a)) in
    let w : length (map atom_of (atoms (drop (h + 1) (word_lines ws)))) ≤ most_atoms = subst (λ b. length b.atoms ≤ most_atoms) e (accepted-fine table (word_lines ws) a k i).few in
    let few : length (atoms (drop (h + 1) (word_lines ws))) ≤ most_atoms = simp length-map at w in
    record {
      found = sym i;
      numbers = λ _. subst (BlockNumbers blk n) (sym e) (block-numbers ws h lt (table, a) blk each n s few (count few));
      shaped = λ _. accepted-shaped table (word_lines ws) a k i;
    }

pub no_block : (table : Table) (ls : List Line) (k n : ℕ) (some : Bool) (blk : List ℕ) → some ≡ false → has_block ls k ≡ false → BlockFound table ls k some n blk
no_block table ls k n some blk s e = record { found = s ∙ sym e; numbers = λ t. no_way (sym s ∙ t); shaped = λ t. no_way (sym s ∙ t) }
