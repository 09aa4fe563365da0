-- Which line may follow another in an accepted sheet, and what each line has.
use mathlib.Core.Path.{◌≡◌, refl, sym, ap, ◌∙◌}
use mathlib.Core.Bool.{Bool, true, false, cond, not, ◌&&◌, ◌||◌}
use mathlib.Core.List.{List, [], ◌∷◌, map}
use mathlib.Core.Logic.{◌⊎◌, inl, inr}
use Prim.Native.Nat.{ℕ, zero, suc, ◌+◌, ◌≤◌, ◌<◌}
use native.Mathlib.Omega.{arith}
use lib.Dec.{eqb, ltb, leb}
use lib.IntN.{ℤ, pos, negsuc}
use borrow.Author.Tests.{eqb-true, ne_eqb, leb-true}
use Rattle.sheet_format.specs.Line.{Line, all, null, line_words}
use Rattle.sheet_format.specs.Table.{Table}
use Rattle.sheet_format.specs.Cause.{question, saved, view, atom, row, other, kind_at, kind_of, kind, rest, in_place, cause, next, refusal, scan, is_head, is_atom, atoms, bound, unsafe, heads}
use Rattle.sheet_format.specs.Answers.{Seen}
use Rattle.sheet_format.proofs.Lists.{no_way, true-false, both}
use Rattle.sheet_format.proofs.ScanLaws.{clean_line}
use Rattle.text_writer.specs.Texts.{line_kind, kind_of_first}

-- ---- line by line

-- a scan that refuses nothing goes on behind each line
pub scan-on : (table : Table) (g : Seen) (b l : Line) (n : ℕ) (ls : List Line) → eqb (scan table g b n (l ∷ ls)).number 0 ≡ true → (eqb (cause table g b l) 0 ≡ true) × (eqb (scan table (next g l) l (n + 1) ls).number 0 ≡ true)
unfolding scan
scan-on table g b l n ls h = go (eqb (cause table g b l) 0) refl h
  where
    go : (t : Bool) → eqb (cause table g b l) 0 ≡ t → eqb (cond t (scan table (next g l) l (n + 1) ls) (refusal (cause table g b l) n)).number 0 ≡ true → (t ≡ true) × (eqb (scan table (next g l) l (n + 1) ls).number 0 ≡ true)
    go true e h = (refl, h)
    go false e h = true-false (sym h ∙ e)

-- and so do the heads
pub heads-on : (l : Line) (n : ℕ) (ls : List Line) → eqb (heads n (l ∷ ls)).number 0 ≡ true → (unsafe l (atoms ls) ≡ false) × (eqb (heads (n + 1) ls).number 0 ≡ true)
unfolding heads
heads-on l n ls h = go (unsafe l (atoms ls)) h
  where
    go : (t : Bool) → eqb (cond t (refusal 8 n) (heads (n + 1) ls)).number 0 ≡ true → (t ≡ false) × (eqb (heads (n + 1) ls).number 0 ≡ true)
    go true h = no_way h
    go false h = (refl, h)

-- ---- kinds

-- a line is written by its kind
pub kind-shown : (k : ℕ) (zs : List ℤ) → ltb 6 k ≡ false → line_kind (line_words (pos k ∷ zs)) ≡ k
unfolding line_words
kind-shown k zs e = rw e

pub four : (n : ℕ) → is_atom (kind_at n) ≡ true → n ≡ 4
four n h = by (eqb n 1) (eqb n 2) (eqb n 3) (eqb n 4) (eqb n 5) refl h
  where
    by : (a b c d e : Bool) → eqb n 4 ≡ d → is_atom (cond a question (cond b saved (cond c view (cond d atom (cond e row other))))) ≡ true → n ≡ 4
    by true b c d e f h = no_way h
    by false true c d e f h = no_way h
    by false false true d e f h = no_way h
    by false false false true e f h = eqb-true n 4 f
    by false false false false true f h = no_way h
    by false false false false false f h = no_way h

atom-shown : (l : Line) → is_atom (kind l) ≡ true → line_kind (line_words l) ≡ 4
unfolding kind_of
atom-shown [] h = no_way h
atom-shown (negsuc v ∷ l) h = no_way h
atom-shown (pos n ∷ l) h = let e = four n h in rw e (kind-shown 4 l refl)

first-atom : (ls : List Line) → null (atoms ls) ≡ false → kind_of_first (map line_words ls) ≡ 4
unfolding atoms
first-atom [] h = true-false h
first-atom (l ∷ ls) h = by (is_atom (kind l)) refl h
  where
    by : (t : Bool) → is_atom (kind l) ≡ t → null (cond t (l ∷ atoms ls) []) ≡ false → line_kind (line_words l) ≡ 4
    by true e h = atom-shown l e
    by false e h = true-false h

-- an atom follows a head
pub head_follows : (l : Line) (ls : List Line) → unsafe l (atoms ls) ≡ false → is_head (kind l) ≡ true → kind_of_first (map line_words ls) ≡ 4
head_follows l ls u h = first-atom ls (by (is_head (kind l)) (null (atoms ls)) (not (all (bound (atoms ls)) (rest l))) u h)
  where
    by : (t a b : Bool) → (t && (a || b)) ≡ false → t ≡ true → a ≡ false
    by true true b u h = u
    by true false b u h = refl
    by false a b u h = no_way h

-- ---- what follows any line

pub record Follows (g : Seen) (next : ℕ) : Type 0 where
  pub is : (next < 4) ⊎ (((next ≡ 4) × (1 ≤ g.last) × (g.last ≤ 4)) ⊎ ((next ≡ 5) × (g.block ≡ 3)))

far-kind : (n : ℕ) → 5 < n → kind_of (pos n) ≡ other
unfolding kind_of
far-kind n h = rw (ne_eqb n 1 (λ e. omega arith), ne_eqb n 2 (λ e. omega arith), ne_eqb n 3 (λ e. omega arith), ne_eqb n 4 (λ e. omega arith), ne_eqb n 5 (λ e. omega arith))

-- no other kind is in place
pub no_other : {A : Type 0} (g : Seen) (n : ℕ) (zs : List ℤ) → 5 < n → in_place g (kind (pos n ∷ zs)) ≡ true → A
no_other g n zs h p = no_way (ap (in_place g) (sym (far-kind n h)) ∙ p)

clean_follows : (g : Seen) (l : Line) → in_place g (kind l) ≡ true → Follows g (line_kind (line_words l))
unfolding kind_of
clean_follows g [] p = no_way p
clean_follows g (negsuc v ∷ l) p = no_way p
clean_follows g (pos zero ∷ l) p = no_way p
clean_follows g (pos (suc zero) ∷ l) p = let e = kind-shown 1 l refl in record { is = inl (omega arith) }
clean_follows g (pos (suc (suc zero)) ∷ l) p = let e = kind-shown 2 l refl in record { is = inl (omega arith) }
clean_follows g (pos (suc (suc (suc zero))) ∷ l) p = let e = kind-shown 3 l refl in record { is = inl (omega arith) }
clean_follows g (pos (suc (suc (suc (suc zero)))) ∷ l) p = let q = both (leb 1 g.last) (leb g.last 4) p in record { is = inr (inl (kind-shown 4 l refl, leb-true 1 g.last q.0, leb-true g.last 4 q.1)) }
clean_follows g (pos (suc (suc (suc (suc (suc zero))))) ∷ l) p = record { is = inr (inr (kind-shown 5 l refl, eqb-true g.block 3 (both (eqb g.block 3) (leb 4 g.last) p).0)) }
clean_follows g (pos (suc (suc (suc (suc (suc (suc n)))))) ∷ l) p = no_other g (suc (suc (suc (suc (suc (suc n)))))) l (omega arith) p

pub line_follows : (table : Table) (g : Seen) (b : Line) (n : ℕ) (ls : List Line) → eqb (scan table g b n ls).number 0 ≡ true → Follows g (kind_of_first (map line_words ls))
line_follows table g b n [] h = record { is = inl (omega arith) }
line_follows table g b n (l ∷ ls) h = clean_follows g l (clean_line table g b l (scan-on table g b l n ls h).0).placed
