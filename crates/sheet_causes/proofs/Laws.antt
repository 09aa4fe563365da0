-- Lines by their words, and the heads line by line.
use mathlib.Core.Path.{◌≡◌, refl, sym, ap, ◌∙◌}
use mathlib.Core.Bool.{Bool, true, false, cond, not, ◌&&◌}
use mathlib.Core.List.{List, [], ◌∷◌}
use Prim.Native.Nat.{ℕ, zero, suc, ◌+◌, ◌≤◌, ◌<◌}
use native.Mathlib.Omega.{arith}
use native.Mathlib.Numerals.{add-one}
use lib.Dec.{eqb, ltb}
use lib.IntN.{ℤ, pos, negsuc}
use lib.Signed.{lt_z}
use lib.ListN.{length, take, drop, get_or, set, length-drop, drop_of_length-le}
use lib.Seq.{get_or-drop, take-suc-set, take-suc, take_all, take-take}
use mir.Syntax.{w32}
use mir.Val.{SFits, to_z, of_z}
use borrow.Author.Tests.{eq-eqb, ne_eqb, ltb-false, le-ltb, lt-ltb, not-true}
use Rattle.sheet_format.proofs.WordLines.{kind-word}
use Rattle.sheet_format.proofs.ScanLaws.{lines-formed}
use Rattle.sheet_format.proofs.Lists.{both}
use Rattle.list_laws.proofs.Words.{word_of}
use Rattle.list_laws.proofs.Lists.{drop-next}
use Rattle.sheet_format.specs.Line.{Line, all, null, word_line}
use Rattle.sheet_format.specs.Table.{Table}
use Rattle.sheet_format.specs.Cause.{kind_of, kind, rest, terms, is_head, is_atom, atoms, same, occurs, bound, unsafe, refusal, none, heads, cause, next, step_of, or_at, missing, start, scan, refusal_of}
use Rattle.sheet_format.specs.Answers.{Refusal}
use Rattle.sheet_format.specs.Answers.{Seen}
use Rattle.sheet_format.specs.Answers.LineStep.{Goes, Stops}
use Rattle.sheet_causes.specs.Formed.{FormedLines}

-- ---- the lines of a number form

-- one word more of a line
pub word_more : (ws l : List ℤ) (at j : ℕ) → length l ≡ 7 → j < 7 → at + 7 ≤ length ws → take j l ≡ take j (drop at ws)
    → take (j + 1) (set l j (get_or ws (at + j) (pos 0))) ≡ take (j + 1) (drop at ws)
word_more ws l at j e lt le h =
    rw (add-one j, take-suc-set l j (get_or ws (at + j) (pos 0)) (omega arith), h, ← get_or-drop at ws j (pos 0))
    (sym (take-suc (drop at ws) j (pos 0) (let d = length-drop at ws in omega arith)))

pub whole-line : (ws l : List ℤ) (at j : ℕ) → length l ≡ 7 → 7 ≤ j → take j l ≡ take j (drop at ws) → l ≡ take 7 (drop at ws)
whole-line ws l at j e le h =
    sym (take_all 7 l (omega arith))
    ∙ sym (take-take 7 j l le)
    ∙ ap (take 7) h
    ∙ take-take 7 j (drop at ws) le

pub formed-at : {ls : List Line} → FormedLines ls → (i : ℕ) → i < length ls → null (get_or ls i []) ≡ false
formed-at {ls} f i h = go ls i f.each h
  where
    go : (ls : List Line) (i : ℕ) → all (λ l. not (null l)) ls ≡ true → i < length ls → null (get_or ls i []) ≡ false
    go [] i e h = absurd (omega arith)
    go (l ∷ ls) zero e h = not-true _ (both _ _ e).0
    go (l ∷ ls) (suc i) e h = go ls i (both (not (null l)) _ e).1 (omega arith)

-- the kind of a line whose second word has the bits n
pub kind-is : (ws : List ℤ) → length ws ≡ 7 → null (word_line ws) ≡ false → (n : ℕ) → SFits w32 (get_or ws 1 (pos 0)) → of_z w32 (get_or ws 1 (pos 0)) ≡ n
    → kind_of (to_z w32 n) ≡ kind (word_line ws)
kind-is ws e f n h g = sym (kind-word ws e f ∙ ap kind_of (word_of n h g))

-- ---- terms

rest-drop : (l : Line) → rest l ≡ drop 1 l
rest-drop [] = refl
rest-drop (k ∷ l) = refl

pub terms-drop : (l : Line) → terms l ≡ drop 2 l
terms-drop [] = refl
terms-drop (k ∷ []) = refl
terms-drop (k ∷ r ∷ l) = refl

pub same_self : (z : ℤ) → same z z ≡ true
same_self (pos n) = simp (le-ltb n n (omega arith))
same_self (negsuc n) = simp (le-ltb n n (omega arith))

-- two different words are not the same
pub same_not : (z t : ℤ) → (z ≡ t → ⊥) → same z t ≡ false
same_not (pos m) (pos n) h = go (ltb m n) (ltb n m) refl refl
  where
    go : (s t : Bool) → ltb m n ≡ s → ltb n m ≡ t → not s && not t ≡ false
    go true t a b = refl
    go false true a b = refl
    go false false a b = let p = ltb-false m n a in let q = ltb-false n m b in absurd (h (ap pos (omega arith)))
same_not (pos m) (negsuc n) h = refl
same_not (negsuc m) (pos n) h = refl
same_not (negsuc m) (negsuc n) h = go (ltb n m) (ltb m n) refl refl
  where
    go : (s t : Bool) → ltb n m ≡ s → ltb m n ≡ t → not s && not t ≡ false
    go true t a b = refl
    go false true a b = refl
    go false false a b = let p = ltb-false n m a in let q = ltb-false m n b in absurd (h (ap negsuc (omega arith)))

pub occurs-here : (z : ℤ) (l : Line) (j : ℕ) → j < length l → get_or l j (pos 0) ≡ z → occurs z (drop j l) ≡ true
occurs-here z l j h e = rw (drop-next l j (pos 0) h, e, same_self z) refl

pub occurs-on : (z : ℤ) (l : Line) (j : ℕ) → j < length l → (get_or l j (pos 0) ≡ z → ⊥) → occurs z (drop (j + 1) l) ≡ occurs z (drop j l)
occurs-on z l j h e = rw (drop-next l j (pos 0) h, same_not z (get_or l j (pos 0)) (λ q. e (sym q))) refl

pub occurs-end : (z : ℤ) (l : Line) (j : ℕ) → length l ≤ j → occurs z (drop j l) ≡ false
occurs-end z l j h = rw (drop_of_length-le l h) refl

-- ---- the atoms from a line on

abbrev pub has : ℤ → List Line → Bool
has z ls = not (all (λ a. not (occurs z (terms a))) ls)

pub has_stop : (z : ℤ) (ls : List Line) (j : ℕ) → j < length ls → is_atom (kind (get_or ls j [])) ≡ false → has z (atoms (drop j ls)) ≡ false
unfolding atoms
has_stop z ls j h e = rw (drop-next ls j [] h, e) refl

pub has_here : (z : ℤ) (ls : List Line) (j : ℕ) → j < length ls → is_atom (kind (get_or ls j [])) ≡ true → occurs z (terms (get_or ls j [])) ≡ true
    → has z (atoms (drop j ls)) ≡ true
unfolding atoms
has_here z ls j h e f = rw (drop-next ls j [] h, e, f) refl

pub has_on : (z : ℤ) (ls : List Line) (j : ℕ) → j < length ls → is_atom (kind (get_or ls j [])) ≡ true → occurs z (terms (get_or ls j [])) ≡ false
    → has z (atoms (drop (j + 1) ls)) ≡ has z (atoms (drop j ls))
unfolding atoms
has_on z ls j h e f = rw (drop-next ls j [] h, e, f) refl

pub has_end : (z : ℤ) (ls : List Line) (j : ℕ) → length ls ≤ j → has z (atoms (drop j ls)) ≡ false
unfolding atoms
has_end z ls j h = rw (drop_of_length-le ls h) refl

-- ---- bound terms

pub bound-variable : (ls : List Line) (z : ℤ) → lt_z z (pos 0) ≡ true → has z ls ≡ bound ls z
bound-variable ls z e = rw e refl

pub bound-constant : (ls : List Line) (z : ℤ) → lt_z z (pos 0) ≡ false → true ≡ bound ls z
bound-constant ls z e = rw e refl

pub all-off : (p : ℤ → Bool) (l : Line) (j : ℕ) → j < length l → p (get_or l j (pos 0)) ≡ false → all p (drop j l) ≡ false
all-off p l j h e = rw (drop-next l j (pos 0) h, e) refl

pub all-on : (p : ℤ → Bool) (l : Line) (j : ℕ) → j < length l → p (get_or l j (pos 0)) ≡ true → all p (drop (j + 1) l) ≡ all p (drop j l)
all-on p l j h e = rw (drop-next l j (pos 0) h, e) refl

pub all_end : (p : ℤ → Bool) (l : Line) (j : ℕ) → length l ≤ j → all p (drop j l) ≡ true
all_end p l j h = rw (drop_of_length-le l h) refl

pub all_rest : (p : ℤ → Bool) (l : Line) → all p (drop 1 l) ≡ all p (rest l)
all_rest p l = ap (all p) (sym (rest-drop l))

-- ---- unsafe heads

module _ (ls : List Line) (i : ℕ) where
  pub no-head : is_head (kind (get_or ls i [])) ≡ false → false ≡ unsafe (get_or ls i []) (atoms (drop (i + 1) ls))
  no-head e = rw e refl

  pub no_line : is_head (kind (get_or ls i [])) ≡ true → length ls ≤ i + 1 → true ≡ unsafe (get_or ls i []) (atoms (drop (i + 1) ls))
  unfolding atoms
  no_line e h = rw (e, drop_of_length-le ls h) refl

  pub no-atom : is_head (kind (get_or ls i [])) ≡ true → i + 1 < length ls → is_atom (kind (get_or ls (i + 1) [])) ≡ false
      → true ≡ unsafe (get_or ls i []) (atoms (drop (i + 1) ls))
  unfolding atoms
  no-atom e h f = rw (e, drop-next ls (i + 1) [] h, f) refl

  pub by-terms : is_head (kind (get_or ls i [])) ≡ true → i + 1 < length ls → is_atom (kind (get_or ls (i + 1) [])) ≡ true
      → not (all (bound (atoms (drop (i + 1) ls))) (rest (get_or ls i []))) ≡ unsafe (get_or ls i []) (atoms (drop (i + 1) ls))
  unfolding atoms
  by-terms e h f = rw (e, drop-next ls (i + 1) [] h, f) refl

  pub heads-here : i < length ls → unsafe (get_or ls i []) (atoms (drop (i + 1) ls)) ≡ true → refusal 8 (i + 1) ≡ heads (i + 1) (drop i ls)
  unfolding heads
  heads-here h e = rw (drop-next ls i [] h, e) refl

  pub heads-on : i < length ls → unsafe (get_or ls i []) (atoms (drop (i + 1) ls)) ≡ false → heads (i + 1 + 1) (drop (i + 1) ls) ≡ heads (i + 1) (drop i ls)
  unfolding heads
  heads-on h e = rw (drop-next ls i [] h, e) refl

  pub heads-end : length ls ≤ i → none ≡ heads (i + 1) (drop i ls)
  unfolding heads
  heads-end h = rw (drop_of_length-le ls h) refl

-- ---- line by line

step-goes : (c n : ℕ) (g h : Seen) (r : Refusal) → cond (eqb c 0) (Goes g) (Stops c) ≡ Goes h → (g ≡ h) × (r ≡ or_at c n r)
step-goes c n g h r e = go (eqb c 0) e
  where
    go : (t : Bool) → cond t (Goes g) (Stops c) ≡ Goes h → (g ≡ h) × (r ≡ cond t r (refusal c n))
    go true f = (cc, refl)
    go false f = let z : ◌≡◌ {A = ℕ} 0 1 = cc in absurd (omega arith)

step-stops : (c d n : ℕ) (g : Seen) (r : Refusal) → cond (eqb c 0) (Goes g) (Stops c) ≡ Stops d → refusal d n ≡ or_at c n r
step-stops c d n g r e = go (eqb c 0) e
  where
    go : (t : Bool) → cond t (Goes g) (Stops c) ≡ Stops d → refusal d n ≡ cond t r (refusal c n)
    go true f = let z : ◌≡◌ {A = ℕ} 0 1 = cc in absurd (omega arith)
    go false f = let q : c ≡ d = cc in ap (λ k. refusal k n) (sym q)

module _ (table : Table) (ls : List Line) (i : ℕ) (g : Seen) (b : Line) where
  pub scan-stops : (d : ℕ) → i < length ls → step_of table g b (get_or ls i []) ≡ Stops d → refusal d (i + 1) ≡ scan table g b (i + 1) (drop i ls)
  unfolding scan step_of
  scan-stops d h e = rw (drop-next ls i [] h) (step-stops (cause table g b (get_or ls i [])) d (i + 1) (next g (get_or ls i [])) _ e)

  pub scan-goes : (g' : Seen) → i < length ls → step_of table g b (get_or ls i []) ≡ Goes g' → scan table g' (get_or ls i []) (i + 1 + 1) (drop (i + 1) ls) ≡ scan table g b (i + 1) (drop i ls)
  unfolding scan step_of
  scan-goes g' h e =
      let s = step-goes (cause table g b (get_or ls i [])) (i + 1) (next g (get_or ls i [])) g' (scan table (next g (get_or ls i [])) (get_or ls i []) (i + 1 + 1) (drop (i + 1) ls)) e in
      rw (drop-next ls i [] h) (ap (λ k. scan table k (get_or ls i []) (i + 1 + 1) (drop (i + 1) ls)) (sym s.0) ∙ s.1)

  pub scan-end : length ls ≤ i → missing g ≡ scan table g b (i + 1) (drop i ls)
  unfolding scan
  scan-end h = rw (drop_of_length-le ls h) refl

pub missing-few : (g : Seen) → g.block < 2 → refusal 3 0 ≡ missing g
missing-few g h = rw (lt-ltb g.block 2 h) refl

pub missing-none : (g : Seen) → 2 ≤ g.block → none ≡ missing g
missing-none g h = rw (le-ltb g.block 2 h) refl

-- ---- the lines' refusal and then the heads'

module _ (table : Table) (ls : List Line) where
  pub scan-formed : (scan table start [] 1 ls).number ≡ 0 → FormedLines ls
  scan-formed h = record { each = lines-formed table ls start [] 1 (eq-eqb _ 0 h) }

  pub refused-heads : (scan table start [] 1 ls).number ≡ 0 → heads 1 ls ≡ refusal_of table ls
  unfolding refusal_of
  refused-heads h = let e = eq-eqb (scan table start [] 1 ls).number 0 h in rw e refl

  pub refused-lines : ((scan table start [] 1 ls).number ≡ 0 → ⊥) → scan table start [] 1 ls ≡ refusal_of table ls
  unfolding refusal_of
  refused-lines h = let e = ne_eqb (scan table start [] 1 ls).number 0 h in rw e refl
