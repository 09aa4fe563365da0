-- Numbering by first place leaves a head's variables in the atoms.
use mathlib.Core.Path.{◌≡◌, refl, sym, ap, ◌∙◌, subst}
use mathlib.Core.Bool.{Bool, true, false, cond, not, ◌&&◌, ◌||◌}
use mathlib.Core.List.{List, [], ◌∷◌, ◌++◌}
use mathlib.Core.Logic.{◌⊎◌, inl, inr, ⊎_elim}
use Prim.Native.Nat.{ℕ, suc, ◌+◌, ◌≤◌, ◌<◌}
use native.Mathlib.Omega.{arith}
use lib.Dec.{eqb, ltb}
use lib.IntN.{ℤ, pos, negsuc}
use lib.ListN.{length, length-append}
use borrow.Author.Tests.{eqb-true, eqb-false, eq-eqb, ltb-true, le-ltb, not-false}
use Rattle.sheet_format.specs.Line.{Line, all, null}
use Rattle.sheet_format.specs.Cause.{Kind, question, saved, view, atom, row, other, kind_at, kind_of, terms, is_head, is_atom, atoms, same, occurs, bound, unsafe, heads}
use Rattle.sheet_format.proofs.Lists.{no_way, true-false, neither, and_left, and_right, and_both}
use Rattle.sheet_causes.proofs.Laws.{same_self, same_not}
use Rattle.text_laws.specs.Numbered.{place_among, known, known_after, numbered_terms, known_behind, terms_in, before_terms, known_in, numbered_lines}
use Rattle.text_laws.proofs.Follows.{heads-on, four}

-- ---- a known variable keeps its place

record Knows (v p : ℕ) (ks : List ℕ) : Type 0 where
  place : place_among v ks ≡ p
  inside : p < length ks

pub place-stays : (v : ℕ) (ks xs : List ℕ) → place_among v ks < length ks → place_among v (ks ++ xs) ≡ place_among v ks
unfolding place_among
place-stays v [] xs h = absurd (omega arith)
place-stays v (k ∷ ks) xs h = by (eqb v k) h (place-stays v ks xs)
  where
    by : (t : Bool) → cond t 0 (suc (place_among v ks)) < suc (length ks) → (place_among v ks < length ks → place_among v (ks ++ xs) ≡ place_among v ks) → cond t 0 (suc (place_among v (ks ++ xs))) ≡ cond t 0 (suc (place_among v ks))
    by true h r = refl
    by false h r = ap suc (r (omega arith))

pub place-new : (v : ℕ) (ks : List ℕ) → place_among v (ks ++ (v ∷ [])) ≡ place_among v ks
unfolding place_among
place-new v [] = rw (eq-eqb v v refl)
place-new v (k ∷ ks) = ap (λ n. cond (eqb v k) 0 (suc n)) (place-new v ks)

pub place-few : (v : ℕ) (ks : List ℕ) → place_among v ks ≤ length ks
unfolding place_among
place-few v [] = omega arith
place-few v (k ∷ ks) = by (eqb v k) (place-few v ks)
  where
    by : (t : Bool) → place_among v ks ≤ length ks → cond t 0 (suc (place_among v ks)) ≤ suc (length ks)
    by true h = omega arith
    by false h = omega arith

knows_after : (v p : ℕ) (ks : List ℕ) (z : ℤ) → Knows v p ks → Knows v p (known_after ks z)
unfolding known
knows_after v p ks (pos n) k = k
knows_after v p ks (negsuc w) k = by (ltb (place_among w ks) (length ks))
  where
    by : (t : Bool) → Knows v p (cond t ks (ks ++ (w ∷ [])))
    by true = k
    by false = let e = k.place in let i = k.inside in let n = length-append ks (w ∷ []) in record { place = place-stays v ks (w ∷ []) (omega arith) ∙ e; inside = omega arith }

-- a variable that is put is known behind it
knows_now : (v : ℕ) (ks : List ℕ) → Knows v (place_among v ks) (known v ks)
unfolding known
knows_now v ks = by (ltb (place_among v ks) (length ks)) refl
  where
    by : (t : Bool) → ltb (place_among v ks) (length ks) ≡ t → Knows v (place_among v ks) (cond t ks (ks ++ (v ∷ [])))
    by true e = record { place = refl; inside = ltb-true (place_among v ks) (length ks) e }
    by false e = let n = length-append ks (v ∷ []) in let f = place-few v ks in record { place = place-new v ks; inside = omega arith }

knows_behind : (v p : ℕ) (ks : List ℕ) (zs : List ℤ) → Knows v p ks → Knows v p (known_behind ks zs)
unfolding known_behind
knows_behind v p ks [] k = k
knows_behind v p ks (z ∷ zs) k = knows_behind v p (known_after ks z) zs (knows_after v p ks z k)

-- ---- in an atom

occurs-kept : (v p : ℕ) (ks : List ℕ) (ts : List ℤ) → Knows v p ks → occurs (negsuc v) ts ≡ true → occurs (negsuc p) (numbered_terms ks ts) ≡ true
unfolding numbered_terms
occurs-kept v p ks [] k o = no_way o
occurs-kept v p ks (pos n ∷ ts) k o = occurs-kept v p ks ts k o
occurs-kept v p ks (negsuc w ∷ ts) k o = by (eqb v w) refl (occurs-kept v p (known w ks) ts (knows_after v p ks (negsuc w) k))
  where
    more : (t : Bool) (x : Bool) → not x ≡ true → not (not t && x) ≡ true
    more true x h = refl
    more false x h = h

    by : (t : Bool) → eqb v w ≡ t → (occurs (negsuc v) ts ≡ true → occurs (negsuc p) (numbered_terms (known w ks) ts) ≡ true) → occurs (negsuc p) (negsuc (place_among w ks) ∷ numbered_terms (known w ks) ts) ≡ true
    by true e r = let q : place_among w ks ≡ p = ap (λ x. place_among x ks) (sym (eqb-true v w e)) ∙ k.place in rw (q, same_self (negsuc p))
    by false e r =
        let n = same_not (negsuc v) (negsuc w) (λ i. eqb-false v w e cc) in
        more (same (negsuc p) (negsuc (place_among w ks))) (all (λ t. not (same (negsuc p) t)) (numbered_terms (known w ks) ts)) (r (rw n at o))

-- ---- in the atoms at the front

-- a line's own
abbrev pub numbered_line : List ℕ → Line → Line
numbered_line ks l = before_terms l ++ numbered_terms (known_in ks l) (terms_in l)

-- one of some atoms has a term
abbrev has : ℤ → List Line → Bool
has z bs = not (all (λ a. not (occurs z (terms a))) bs)

-- the first has it, or one behind it
has_first : (z : ℤ) (a : Line) (bs : List Line) → has z (a ∷ bs) ≡ true → (occurs z (terms a) ≡ true) ⊎ (has z bs ≡ true)
has_first z a bs h = by (occurs z (terms a)) h
  where
    by : (t : Bool) → not (not t && all (λ a. not (occurs z (terms a))) bs) ≡ true → (t ≡ true) ⊎ (has z bs ≡ true)
    by true h = inl refl
    by false h = inr h

has_here : (z : ℤ) (a : Line) (bs : List Line) → occurs z (terms a) ≡ true → has z (a ∷ bs) ≡ true
has_here z a bs h = rw h

has-behind : (z : ℤ) (a : Line) (bs : List Line) → has z bs ≡ true → has z (a ∷ bs) ≡ true
has-behind z a bs h = by (occurs z (terms a))
  where
    by : (t : Bool) → not (not t && all (λ a. not (occurs z (terms a))) bs) ≡ true
    by true = refl
    by false = h

-- what holds behind an atom holds from it on
held-step : (v p : ℕ) (ks : List ℕ) (zs : List ℤ) (ls : List Line) → ((js : List ℕ) → Knows v p js → has (negsuc v) (atoms ls) ≡ true → has (negsuc p) (atoms (numbered_lines js ls)) ≡ true)
    → Knows v p ks → has (negsuc v) ((pos 4 ∷ zs) ∷ atoms ls) ≡ true → has (negsuc p) (atoms (numbered_lines ks ((pos 4 ∷ zs) ∷ ls))) ≡ true
unfolding atoms numbered_lines numbered_terms known_behind kind_of
held-step v p ks [] ls on k g = on ks k g
held-step v p ks (r ∷ zs) ls on k g =
    let a = pos 4 ∷ r ∷ numbered_terms ks zs in
    let bs = atoms (numbered_lines (known_behind ks zs) ls) in
    ⊎_elim
    (λ o. has_here (negsuc p) a bs (occurs-kept v p ks zs k o))
    (λ o. has-behind (negsuc p) a bs (on (known_behind ks zs) (knows_behind v p ks zs k) o))
    (has_first (negsuc v) (pos 4 ∷ r ∷ zs) (atoms ls) g)

held_kept : (v p : ℕ) (ks : List ℕ) (ls : List Line) → Knows v p ks → has (negsuc v) (atoms ls) ≡ true → has (negsuc p) (atoms (numbered_lines ks ls)) ≡ true
unfolding atoms kind_of
held_kept v p ks [] k h = no_way h
held_kept v p ks ([] ∷ ls) k h = no_way h
held_kept v p ks ((negsuc n ∷ zs) ∷ ls) k h = no_way h
held_kept v p ks ((pos n ∷ zs) ∷ ls) k h = by (λ js. held_kept v p js ls) (is_atom (kind_at n)) refl h
  where
    by : ((js : List ℕ) → Knows v p js → has (negsuc v) (atoms ls) ≡ true → has (negsuc p) (atoms (numbered_lines js ls)) ≡ true)
        → (t : Bool) → is_atom (kind_at n) ≡ t → has (negsuc v) (cond t ((pos n ∷ zs) ∷ atoms ls) []) ≡ true → has (negsuc p) (atoms (numbered_lines ks ((pos n ∷ zs) ∷ ls))) ≡ true
    by on true e h = let q = four n e in rw q (held-step v p ks zs ls on k h)
    by on false e h = no_way h

-- ---- a head's terms

bound-terms : (ks : List ℕ) (zs : List ℤ) (ls : List Line) (js : List ℕ) → known_behind ks zs ≡ js → all (bound (atoms ls)) zs ≡ true → all (bound (atoms (numbered_lines js ls))) (numbered_terms ks zs) ≡ true
unfolding numbered_terms known_behind
bound-terms ks [] ls js e h = refl
bound-terms ks (pos n ∷ zs) ls js e h =
    and_both (bound (atoms (numbered_lines js ls)) (pos n)) (all (bound (atoms (numbered_lines js ls))) (numbered_terms ks zs)) (rw (le-ltb n 0 (omega arith)))
    (bound-terms ks zs ls js e (and_right (bound (atoms ls) (pos n)) (all (bound (atoms ls)) zs) h))
bound-terms ks (negsuc v ∷ zs) ls js e h =
    let k : Knows v (place_among v ks) js = subst (Knows v (place_among v ks)) e (knows_behind v (place_among v ks) (known v ks) zs (knows_now v ks)) in
    and_both (bound (atoms (numbered_lines js ls)) (negsuc (place_among v ks))) (all (bound (atoms (numbered_lines js ls))) (numbered_terms (known v ks) zs))
    (held_kept v (place_among v ks) js ls k (and_left (bound (atoms ls) (negsuc v)) (all (bound (atoms ls)) zs) h))
    (bound-terms (known v ks) zs ls js e (and_right (bound (atoms ls) (negsuc v)) (all (bound (atoms ls)) zs) h))

atoms_stay : (ks : List ℕ) (ls : List Line) → null (atoms ls) ≡ false → null (atoms (numbered_lines ks ls)) ≡ false
unfolding atoms numbered_lines kind_of
atoms_stay ks [] h = true-false h
atoms_stay ks ([] ∷ ls) h = true-false h
atoms_stay ks ((negsuc n ∷ zs) ∷ ls) h = true-false h
atoms_stay ks ((pos n ∷ zs) ∷ ls) h = by (is_atom (kind_at n)) refl h
  where
    by : (t : Bool) → is_atom (kind_at n) ≡ t → null (cond t ((pos n ∷ zs) ∷ atoms ls) []) ≡ false → null (atoms (numbered_lines ks ((pos n ∷ zs) ∷ ls))) ≡ false
    by true e h = let q = four n e in rw q
    by false e h = true-false h

abbrev loose : List Line → List ℤ → Bool
loose bs zs = null bs || not (all (bound bs) zs)

head-safe : (zs : List ℤ) (ls : List Line) → loose (atoms ls) zs ≡ false → loose (atoms (numbered_lines (known_behind [] zs) ls)) (numbered_terms [] zs) ≡ false
head-safe zs ls h =
    let n = neither (null (atoms ls)) (not (all (bound (atoms ls)) zs)) h in
    rw (atoms_stay (known_behind [] zs) ls n.0, bound-terms [] zs ls (known_behind [] zs) refl (not-false (all (bound (atoms ls)) zs) n.1))

unsafe-kept : (l : Line) (ks : List ℕ) (ls : List Line) → unsafe l (atoms ls) ≡ false → unsafe (numbered_line ks l) (atoms (numbered_lines (known_behind (known_in ks l) (terms_in l)) ls)) ≡ false
unfolding kind_of numbered_terms
unsafe-kept [] ks ls u = refl
unsafe-kept (negsuc n ∷ zs) ks ls u = refl
unsafe-kept (pos n ∷ zs) ks ls u = by (kind_at n) refl u
  where
    by : (k : Kind) → kind_at n ≡ k → (is_head k && loose (atoms ls) zs) ≡ false → unsafe (numbered_line ks (pos n ∷ zs)) (atoms (numbered_lines (known_behind (known_in ks (pos n ∷ zs)) (terms_in (pos n ∷ zs))) ls)) ≡ false
    by question e u = rw (e, e) (head-safe zs ls u)
    by saved e u = rw (e, e) (head-safe zs ls u)
    by view e u = rw (e, e) (head-safe zs ls u)
    by atom e u = rw (e, e)
    by row e u = rw (e, e)
    by other e u = rw (e, e)

-- no head is refused
pub heads-kept : (ls : List Line) (ks : List ℕ) (n : ℕ) → eqb (heads n ls).number 0 ≡ true → eqb (heads n (numbered_lines ks ls)).number 0 ≡ true
unfolding heads numbered_lines
heads-kept [] ks n h = refl
heads-kept (l ∷ ls) ks n h =
    let b = heads-on l n ls h in
    rw (unsafe-kept l ks ls b.0) (heads-kept ls (known_behind (known_in ks l) (terms_in l)) (n + 1) b.1)
