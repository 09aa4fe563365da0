-- Lines whose variables are numbered by first place mean the same: their blocks have the same rows, and the same answers on every log.
use mathlib.Core.Path.{◌≡◌, refl, sym, ap, ◌∙◌, subst}
use mathlib.Core.Bool.{Bool, true, false, cond, true≢false}
use mathlib.Core.List.{List, [], ◌∷◌, ◌++◌, map}
use mathlib.Core.Logic.{◌⊎◌, inl, inr, ⊎_elim}
use Prim.Native.Nat.{ℕ, zero, suc, ◌+◌, ◌-◌, ◌<◌, ◌≤◌}
use native.Mathlib.Omega.{arith}
use lib.Dec.{eqb, ltb}
use lib.IntN.{ℤ, pos, negsuc}
use lib.ListN.{length, get_or, take, drop, length-append}
use borrow.Author.Tests.{eqb-true, eq-eqb, lt-ltb, le-ltb}
use Rattle.list_laws.proofs.Order.{less?}
use Rattle.sheet_format.specs.Line.{Line, natural}
use Rattle.sheet_format.specs.Cause as cause
use Rattle.sheet_format.specs.Cause.{Kind, kind, rest, second, terms, is_head, is_atom, atoms}
use Rattle.query_meaning.specs.Meaning.{Fact, Log, Term, con, var, Atom, Block, In, value, row, fact_of, Holds, Answer}
use Rattle.query_meaning.specs.Blocks.{View, as_term, atom_of, block_of, is_row, rows, view_of, blocks}
use Rattle.query_encoding.proofs.Lists.{in_map, map_in}
use Rattle.text_laws.specs.Numbered.{place_among, known, numbered_term, known_after, numbered_terms, known_behind, terms_in, before_terms, known_in, numbered_lines}

-- ---- names

pub record Begins (ks all : List ℕ) : Type 0 where
  pub more : List ℕ
  pub is : all ≡ ks ++ more

append-nil : (l : List ℕ) → l ++ [] ≡ l
append-nil [] = refl
append-nil (n ∷ l) = ap (λ z. n ∷ z) (append-nil l)

append_assoc : (a b c : List ℕ) → (a ++ b) ++ c ≡ a ++ (b ++ c)
append_assoc [] b c = refl
append_assoc (n ∷ a) b c = ap (λ z. n ∷ z) (append_assoc a b c)

begins_self : (ks : List ℕ) → Begins ks ks
begins_self ks = record { more = []; is = sym (append-nil ks) }

begins-on : (a b c : List ℕ) → Begins a b → Begins b c → Begins a c
begins-on a b c f g = record { more = f.more ++ g.more; is = g.is ∙ ap (λ l. l ++ g.more) f.is ∙ append_assoc a f.more g.more }

place-most : (v : ℕ) (ks : List ℕ) → place_among v ks ≤ length ks
unfolding place_among
place-most v [] = omega arith
place-most v (k ∷ ks) = go (eqb v k) (place-most v ks)
  where
    go : (b : Bool) → place_among v ks ≤ length ks → cond b 0 (suc (place_among v ks)) ≤ suc (length ks)
    go true h = omega arith
    go false h = omega arith

-- names that follow change no place
place_in : (v : ℕ) (ks m : List ℕ) → place_among v ks < length ks → place_among v (ks ++ m) ≡ place_among v ks
unfolding place_among
place_in v [] m lt = absurd (omega arith)
place_in v (k ∷ ks) m lt = go (eqb v k) (place_in v ks m) lt
  where
    go : (b : Bool) → (place_among v ks < length ks → place_among v (ks ++ m) ≡ place_among v ks) → cond b 0 (suc (place_among v ks)) < suc (length ks) → cond b 0 (suc (place_among v (ks ++ m))) ≡ cond b 0 (suc (place_among v ks))
    go true r h = refl
    go false r h = ap suc (r (omega arith))

eqb_self : (n : ℕ) → eqb n n ≡ true
eqb_self n = eq-eqb n n refl

place-new : (v : ℕ) (ks m : List ℕ) → length ks ≤ place_among v ks → place_among v (ks ++ (v ∷ m)) ≡ place_among v ks
unfolding place_among
place-new v [] m le = ap (λ b. cond b 0 (suc (place_among v m))) (eqb_self v)
place-new v (k ∷ ks) m le = go (eqb v k) (place-new v ks m) le
  where
    go : (b : Bool) → (length ks ≤ place_among v ks → place_among v (ks ++ (v ∷ m)) ≡ place_among v ks) → suc (length ks) ≤ cond b 0 (suc (place_among v ks)) → cond b 0 (suc (place_among v (ks ++ (v ∷ m)))) ≡ cond b 0 (suc (place_among v ks))
    go true r h = absurd (omega arith)
    go false r h = ap suc (r (omega arith))

place_at : (v : ℕ) (ks : List ℕ) → place_among v ks < length ks → get_or ks (place_among v ks) 0 ≡ v
unfolding place_among
place_at v [] lt = absurd (omega arith)
place_at v (k ∷ ks) lt = go (eqb v k) refl (place_at v ks) lt
  where
    go : (b : Bool) → eqb v k ≡ b → (place_among v ks < length ks → get_or ks (place_among v ks) 0 ≡ v) → cond b 0 (suc (place_among v ks)) < suc (length ks) → get_or (k ∷ ks) (cond b 0 (suc (place_among v ks))) 0 ≡ v
    go true e r h = sym (eqb-true v k e)
    go false e r h = r (omega arith)

known-old : (v : ℕ) (ks : List ℕ) → place_among v ks < length ks → known v ks ≡ ks
unfolding known
known-old v ks lt = ap (λ b. cond b ks (ks ++ (v ∷ []))) (lt-ltb (place_among v ks) (length ks) lt)

known-new : (v : ℕ) (ks : List ℕ) → length ks ≤ place_among v ks → known v ks ≡ ks ++ (v ∷ [])
unfolding known
known-new v ks le = ap (λ b. cond b ks (ks ++ (v ∷ []))) (le-ltb (place_among v ks) (length ks) le)

known-begins : (v : ℕ) (ks : List ℕ) → Begins ks (known v ks)
known-begins v ks = ⊎_elim
    (λ lt. subst (Begins ks) (sym (known-old v ks lt)) (begins_self ks))
    (λ le. subst (Begins ks) (sym (known-new v ks le)) record { more = v ∷ []; is = refl })
    (less? (place_among v ks) (length ks))

-- a variable's place among all names is its place when it came, and has its name
record Placed (v : ℕ) (ks all : List ℕ) : Type 0 where
  same : place_among v all ≡ place_among v ks
  back : get_or all (place_among v all) 0 ≡ v

placed : (v : ℕ) (ks all : List ℕ) → Begins (known v ks) all → Placed v ks all
placed v ks all f = ⊎_elim old new (less? (place_among v ks) (length ks))
  where
    old : place_among v ks < length ks → Placed v ks all
    old lt =
        let is : all ≡ ks ++ f.more = f.is ∙ ap (λ l. l ++ f.more) (known-old v ks lt) in
        let e : place_among v all ≡ place_among v ks = ap (place_among v) is ∙ place_in v ks f.more lt in
        let long : length all ≡ length ks + length f.more = ap length is ∙ length-append ks f.more in
        record { same = e; back = place_at v all (omega arith) }

    new : length ks ≤ place_among v ks → Placed v ks all
    new le =
        let is : all ≡ ks ++ (v ∷ f.more) = f.is ∙ ap (λ l. l ++ f.more) (known-new v ks le) ∙ append_assoc ks (v ∷ []) f.more in
        let e : place_among v all ≡ place_among v ks = ap (place_among v) is ∙ place-new v ks f.more le in
        let long : length all ≡ length ks + suc (length f.more) = ap length is ∙ length-append ks (v ∷ f.more) in
        let most = place-most v ks in
        record { same = e; back = place_at v all (omega arith) }

after-begins : (ks : List ℕ) (z : ℤ) → Begins ks (known_after ks z)
after-begins ks (pos n) = begins_self ks
after-begins ks (negsuc v) = known-begins v ks

behind-begins : (ks : List ℕ) (zs : List ℤ) → Begins ks (known_behind ks zs)
unfolding known_behind
behind-begins ks [] = begins_self ks
behind-begins ks (z ∷ zs) = begins-on ks (known_after ks z) (known_behind (known_after ks z) zs) (after-begins ks z) (behind-begins (known_after ks z) zs)

-- ---- two valuations, of the old terms and of the new ones

record Same (f g : ℕ → ℕ) (all : List ℕ) : Type 0 where
  at : (v : ℕ) (ks : List ℕ) → Begins (known v ks) all → g (suc (place_among v ks)) ≡ f (suc v)

module _ (f g : ℕ → ℕ) (all : List ℕ) (s : Same f g all) where
  term-same : (ks : List ℕ) (z : ℤ) → Begins (known_after ks z) all → value g (as_term (numbered_term ks z)) ≡ value f (as_term z)
  term-same ks (pos n) b = refl
  term-same ks (negsuc v) b = s.at v ks b

  terms-same : (ks : List ℕ) (zs : List ℤ) → Begins (known_behind ks zs) all → row g (map as_term (numbered_terms ks zs)) ≡ row f (map as_term zs)
  unfolding known_behind numbered_terms
  terms-same ks [] b = refl
  terms-same ks (z ∷ zs) b =
      ap (λ n. n ∷ row g (map as_term (numbered_terms (known_after ks z) zs))) (term-same ks z (begins-on (known_after ks z) (known_behind (known_after ks z) zs) all (behind-begins (known_after ks z) zs) b))
      ∙ ap (λ l. value f (as_term z) ∷ l) (terms-same (known_after ks z) zs b)

-- ---- lines

kind-same : (b : Bool) (ks : List ℕ) (l : Line) → kind (take (cond b 2 1) l ++ numbered_terms ks (cond b (terms l) (rest l))) ≡ kind l
unfolding numbered_terms
kind-same true ks [] = refl
kind-same false ks [] = refl
kind-same true ks (k ∷ []) = refl
kind-same true ks (k ∷ r ∷ l) = refl
kind-same false ks (k ∷ l) = refl

atom-terms : (ks : List ℕ) (l : Line) → terms (take 2 l ++ numbered_terms ks (terms l)) ≡ numbered_terms ks (terms l)
unfolding numbered_terms
atom-terms ks [] = refl
atom-terms ks (k ∷ []) = refl
atom-terms ks (k ∷ r ∷ l) = refl

atom-second : (ks : List ℕ) (l : Line) → second (take 2 l ++ numbered_terms ks (terms l)) ≡ second l
unfolding numbered_terms
atom-second ks [] = refl
atom-second ks (k ∷ []) = refl
atom-second ks (k ∷ r ∷ l) = refl

other-rest : (ks : List ℕ) (l : Line) → rest (take 1 l ++ numbered_terms ks (rest l)) ≡ numbered_terms ks (rest l)
unfolding numbered_terms
other-rest ks [] = refl
other-rest ks (k ∷ l) = refl

atom-no-head : (k : Kind) → is_atom k ≡ true → is_head k ≡ false
atom-no-head cause.question e = absurd (true≢false (sym e))
atom-no-head cause.saved e = absurd (true≢false (sym e))
atom-no-head cause.view e = absurd (true≢false (sym e))
atom-no-head cause.atom e = refl
atom-no-head cause.row e = absurd (true≢false (sym e))
atom-no-head cause.other e = absurd (true≢false (sym e))

head-no-atom : (k : Kind) → is_head k ≡ true → is_atom k ≡ false
head-no-atom cause.question e = refl
head-no-atom cause.saved e = refl
head-no-atom cause.view e = refl
head-no-atom cause.atom e = absurd (true≢false (sym e))
head-no-atom cause.row e = refl
head-no-atom cause.other e = refl

-- the names behind the atoms at the front
names_behind : List ℕ → List Line → List ℕ
names_behind ks [] = ks
names_behind ks (l ∷ ls) = cond (is_atom (kind l)) (names_behind (known_behind ks (terms l)) ls) ks

names-begin : (ks : List ℕ) (ls : List Line) → Begins ks (names_behind ks ls)
unfolding names_behind
names-begin ks [] = begins_self ks
names-begin ks (l ∷ ls) = go (is_atom (kind l)) (names-begin (known_behind ks (terms l)) ls)
  where
    go : (b : Bool) → Begins (known_behind ks (terms l)) (names_behind (known_behind ks (terms l)) ls) → Begins ks (cond b (names_behind (known_behind ks (terms l)) ls) ks)
    go true r = begins-on ks (known_behind ks (terms l)) (names_behind (known_behind ks (terms l)) ls) (behind-begins ks (terms l)) r
    go false r = begins_self ks

-- one line of the numbered lines
line-atom : (ks : List ℕ) (l : Line) (ls : List Line) → is_atom (kind l) ≡ true
    → numbered_lines ks (l ∷ ls) ≡ (take 2 l ++ numbered_terms ks (terms l)) ∷ numbered_lines (known_behind ks (terms l)) ls
unfolding numbered_lines
line-atom ks l ls e =
    let h = atom-no-head (kind l) e in
    ap (λ b. (take (cond b 2 1) l ++ numbered_terms (known_in ks l) (cond b (terms l) (rest l))) ∷ numbered_lines (known_behind (known_in ks l) (cond b (terms l) (rest l))) ls) e
    ∙ ap (λ b. (take 2 l ++ numbered_terms (cond b [] ks) (terms l)) ∷ numbered_lines (known_behind (cond b [] ks) (terms l)) ls) h

line_other : (ks : List ℕ) (l : Line) (ls : List Line) → is_atom (kind l) ≡ false
    → numbered_lines ks (l ∷ ls) ≡ (take 1 l ++ numbered_terms (known_in ks l) (rest l)) ∷ numbered_lines (known_behind (known_in ks l) (rest l)) ls
unfolding numbered_lines
line_other ks l ls e =
    ap (λ b. (take (cond b 2 1) l ++ numbered_terms (known_in ks l) (cond b (terms l) (rest l))) ∷ numbered_lines (known_behind (known_in ks l) (cond b (terms l) (rest l))) ls) e

-- ---- the atoms at the front, and what is behind them

atoms-on : (l : Line) (ls : List Line) → is_atom (kind l) ≡ true → atoms (l ∷ ls) ≡ l ∷ atoms ls
unfolding atoms
atoms-on l ls e = ap (λ b. cond b (l ∷ atoms ls) []) e

atoms-off : (l : Line) (ls : List Line) → is_atom (kind l) ≡ false → atoms (l ∷ ls) ≡ []
unfolding atoms
atoms-off l ls e = ap (λ b. cond b (l ∷ atoms ls) []) e

names-on : (ks : List ℕ) (l : Line) (ls : List Line) → is_atom (kind l) ≡ true → names_behind ks (l ∷ ls) ≡ names_behind (known_behind ks (terms l)) ls
unfolding names_behind
names-on ks l ls e = ap (λ b. cond b (names_behind (known_behind ks (terms l)) ls) ks) e

names-off : (ks : List ℕ) (l : Line) (ls : List Line) → is_atom (kind l) ≡ false → names_behind ks (l ∷ ls) ≡ ks
unfolding names_behind
names-off ks l ls e = ap (λ b. cond b (names_behind (known_behind ks (terms l)) ls) ks) e

-- the numbered atoms, with what the first line becomes
numbered-on : (ks : List ℕ) (l : Line) (ls : List Line) → is_atom (kind l) ≡ true
    → atoms (numbered_lines ks (l ∷ ls)) ≡ (take 2 l ++ numbered_terms ks (terms l)) ∷ atoms (numbered_lines (known_behind ks (terms l)) ls)
numbered-on ks l ls e =
    ap atoms (line-atom ks l ls e) ∙ atoms-on (take 2 l ++ numbered_terms ks (terms l)) (numbered_lines (known_behind ks (terms l)) ls) (ap is_atom (kind-same true ks l) ∙ e)

numbered-off : (ks : List ℕ) (l : Line) (ls : List Line) → is_atom (kind l) ≡ false → atoms (numbered_lines ks (l ∷ ls)) ≡ []
numbered-off ks l ls e =
    ap atoms (line_other ks l ls e) ∙ atoms-off (take 1 l ++ numbered_terms (known_in ks l) (rest l)) (numbered_lines (known_behind (known_in ks l) (rest l)) ls) (ap is_atom (kind-same false (known_in ks l) l) ∙ e)

decided : (b : Bool) → (b ≡ true) ⊎ (b ≡ false)
decided true = inl refl
decided false = inr refl

-- behind the atoms stand the numbered lines that stood there, by the names behind the atoms
behind : (ks : List ℕ) (ls : List Line) → drop (length (atoms (numbered_lines ks ls))) (numbered_lines ks ls) ≡ numbered_lines (names_behind ks ls) (drop (length (atoms ls)) ls)
unfolding names_behind atoms numbered_lines
behind ks [] = refl
behind ks (l ∷ ls) = ⊎_elim (go_on (behind (known_behind ks (terms l)) ls)) go-off (decided (is_atom (kind l)))
  where
    go_on : drop (length (atoms (numbered_lines (known_behind ks (terms l)) ls))) (numbered_lines (known_behind ks (terms l)) ls) ≡ numbered_lines (names_behind (known_behind ks (terms l)) ls) (drop (length (atoms ls)) ls)
        → is_atom (kind l) ≡ true → drop (length (atoms (numbered_lines ks (l ∷ ls)))) (numbered_lines ks (l ∷ ls)) ≡ numbered_lines (names_behind ks (l ∷ ls)) (drop (length (atoms (l ∷ ls))) (l ∷ ls))
    go_on r e =
        ap (λ z. drop (length z) (numbered_lines ks (l ∷ ls))) (numbered-on ks l ls e)
        ∙ ap (drop (suc (length (atoms (numbered_lines (known_behind ks (terms l)) ls))))) (line-atom ks l ls e)
        ∙ r
        ∙ ap (λ n. numbered_lines n (drop (length (atoms ls)) ls)) (sym (names-on ks l ls e))
        ∙ ap (λ z. numbered_lines (names_behind ks (l ∷ ls)) (drop (length z) (l ∷ ls))) (sym (atoms-on l ls e))

    go-off : is_atom (kind l) ≡ false → drop (length (atoms (numbered_lines ks (l ∷ ls)))) (numbered_lines ks (l ∷ ls)) ≡ numbered_lines (names_behind ks (l ∷ ls)) (drop (length (atoms (l ∷ ls))) (l ∷ ls))
    go-off e =
        ap (λ z. drop (length z) (numbered_lines ks (l ∷ ls))) (numbered-off ks l ls e)
        ∙ ap (λ n. numbered_lines n (l ∷ ls)) (sym (names-off ks l ls e))
        ∙ ap (λ z. numbered_lines (names_behind ks (l ∷ ls)) (drop (length z) (l ∷ ls))) (sym (atoms-off l ls e))

-- ---- rows

naturals : (ks : List ℕ) (zs : List ℤ) → map natural (numbered_terms ks zs) ≡ map natural zs
unfolding numbered_terms
naturals ks [] = refl
naturals ks (pos n ∷ zs) = ap (λ l. n ∷ l) (naturals ks zs)
naturals ks (negsuc v ∷ zs) = ap (λ l. 0 ∷ l) (naturals (known v ks) zs)

row-no-atom : (k : Kind) → is_row k ≡ true → is_atom k ≡ false
row-no-atom cause.question e = refl
row-no-atom cause.saved e = refl
row-no-atom cause.view e = refl
row-no-atom cause.atom e = absurd (true≢false (sym e))
row-no-atom cause.row e = refl
row-no-atom cause.other e = refl

rows_on : (l : Line) (ls : List Line) → is_row (kind l) ≡ true → rows (l ∷ ls) ≡ map natural (rest l) ∷ rows ls
unfolding rows
rows_on l ls e = ap (λ b. cond b (map natural (rest l) ∷ rows ls) []) e

rows-off : (l : Line) (ls : List Line) → is_row (kind l) ≡ false → rows (l ∷ ls) ≡ []
unfolding rows
rows-off l ls e = ap (λ b. cond b (map natural (rest l) ∷ rows ls) []) e

-- the first of the numbered lines has the kind of the first
first_of : (ks : List ℕ) (l : Line) (ls : List Line) → (m : Line) × (ms : List Line) × (numbered_lines ks (l ∷ ls) ≡ m ∷ ms) × (kind m ≡ kind l)
unfolding numbered_lines
first_of ks l ls = (_, _, refl, kind-same (is_atom (kind l)) (known_in ks l) l)

rows_same : (ks : List ℕ) (ls : List Line) → rows (numbered_lines ks ls) ≡ rows ls
unfolding numbered_lines rows
rows_same ks [] = refl
rows_same ks (l ∷ ls) = ⊎_elim (go_on (rows_same (known_behind (known_in ks l) (rest l)) ls)) go-off (decided (is_row (kind l)))
  where
    go_on : rows (numbered_lines (known_behind (known_in ks l) (rest l)) ls) ≡ rows ls → is_row (kind l) ≡ true → rows (numbered_lines ks (l ∷ ls)) ≡ rows (l ∷ ls)
    go_on r e =
        let n = take 1 l ++ numbered_terms (known_in ks l) (rest l) in
        ap rows (line_other ks l ls (row-no-atom (kind l) e))
        ∙ rows_on n (numbered_lines (known_behind (known_in ks l) (rest l)) ls) (ap is_row (kind-same false (known_in ks l) l) ∙ e)
        ∙ ap (λ z. map natural z ∷ rows (numbered_lines (known_behind (known_in ks l) (rest l)) ls)) (other-rest (known_in ks l) l)
        ∙ ap (λ z. z ∷ rows (numbered_lines (known_behind (known_in ks l) (rest l)) ls)) (naturals (known_in ks l) (rest l))
        ∙ ap (λ z. map natural (rest l) ∷ z) r
        ∙ sym (rows_on l ls e)

    go-off : is_row (kind l) ≡ false → rows (numbered_lines ks (l ∷ ls)) ≡ rows (l ∷ ls)
    go-off e = let (m, ms, q, k) = first_of ks l ls in ap rows q ∙ rows-off m ms (ap is_row k ∙ e) ∙ sym (rows-off l ls e)

-- ---- a block's answers

-- the facts that the atoms become, by the old valuation and by the new one
module _ (f g : ℕ → ℕ) (all : List ℕ) (s : Same f g all) where
  facts-same : (ks : List ℕ) (ls : List Line) → Begins (names_behind ks ls) all → map (fact_of g) (map atom_of (atoms (numbered_lines ks ls))) ≡ map (fact_of f) (map atom_of (atoms ls))
  unfolding names_behind atoms numbered_lines
  facts-same ks [] b = refl
  facts-same ks (l ∷ ls) b = ⊎_elim (go_on (facts-same (known_behind ks (terms l)) ls)) go-off (decided (is_atom (kind l)))
    where
      go_on : (Begins (names_behind (known_behind ks (terms l)) ls) all
          → map (fact_of g) (map atom_of (atoms (numbered_lines (known_behind ks (terms l)) ls))) ≡ map (fact_of f) (map atom_of (atoms ls)))
          → is_atom (kind l) ≡ true → map (fact_of g) (map atom_of (atoms (numbered_lines ks (l ∷ ls)))) ≡ map (fact_of f) (map atom_of (atoms (l ∷ ls)))
      go_on r e =
          let after : Begins (names_behind (known_behind ks (terms l)) ls) all = subst (λ n. Begins n all) (names-on ks l ls e) b in
          let here : Begins (known_behind ks (terms l)) all = begins-on (known_behind ks (terms l)) (names_behind (known_behind ks (terms l)) ls) all (names-begin (known_behind ks (terms l)) ls) after in
          ap (λ z. map (fact_of g) (map atom_of z)) (numbered-on ks l ls e)
          ∙ ap (λ z. record { rel = natural z; row = row g (map as_term (terms (take 2 l ++ numbered_terms ks (terms l)))) } ∷ map (fact_of g) (map atom_of (atoms (numbered_lines (known_behind ks (terms l)) ls)))) (atom-second ks l)
          ∙ ap (λ z. record { rel = natural (second l); row = row g (map as_term z) } ∷ map (fact_of g) (map atom_of (atoms (numbered_lines (known_behind ks (terms l)) ls)))) (atom-terms ks l)
          ∙ ap (λ z. record { rel = natural (second l); row = z } ∷ map (fact_of g) (map atom_of (atoms (numbered_lines (known_behind ks (terms l)) ls)))) (terms-same f g all s ks (terms l) here)
          ∙ ap (λ z. fact_of f (atom_of l) ∷ z) (r after)
          ∙ ap (λ z. map (fact_of f) (map atom_of z)) (sym (atoms-on l ls e))

      go-off : is_atom (kind l) ≡ false → map (fact_of g) (map atom_of (atoms (numbered_lines ks (l ∷ ls)))) ≡ map (fact_of f) (map atom_of (atoms (l ∷ ls)))
      go-off e = ap (λ z. map (fact_of g) (map atom_of z)) (numbered-off ks l ls e) ∙ ap (λ z. map (fact_of f) (map atom_of z)) (sym (atoms-off l ls e))

-- the valuation of the new variables by the old ones, and back
forth : List ℕ → (ℕ → ℕ) → ℕ → ℕ
forth all f n = f (suc (get_or all (n - 1) 0))

back : List ℕ → (ℕ → ℕ) → ℕ → ℕ
back all g n = g (suc (place_among (n - 1) all))

forth-same : (all : List ℕ) (f : ℕ → ℕ) → Same f (forth all f) all
unfolding forth
forth-same all f = record {
  at = λ v ks b.
      let p = placed v ks all b in
      let e : suc (place_among v ks) - 1 ≡ place_among v ks = omega arith in
      ap (λ n. f (suc (get_or all n 0))) (e ∙ sym p.same) ∙ ap (λ n. f (suc n)) p.back;
}

back-same : (all : List ℕ) (g : ℕ → ℕ) → Same (back all g) g all
unfolding back
back-same all g = record {
  at = λ v ks b.
      let p = placed v ks all b in
      let e : suc v - 1 ≡ v = omega arith in
      ap (λ n. g (suc n)) (sym p.same) ∙ ap (λ n. g (suc (place_among n all))) (sym e);
}

held : (log : Log) (v w : ℕ → ℕ) (us bs : List Atom) → map (fact_of v) us ≡ map (fact_of w) bs → ((a : Atom) → In a us → In (fact_of v a) log) → (b : Atom) → In b bs → In (fact_of w b) log
held log v w us bs e h b m =
    let (a, i, q) = map_in (fact_of v) (fact_of w b) us (subst (λ l. In (fact_of w b) l) (sym e) (in_map (fact_of w) b bs m)) in
    subst (λ x. In x log) (sym q) (h a i)

-- two blocks with the same answers on every log
pub record SameAnswers (b c : Block) : Type 0 where
  pub to : (log : Log) (t : List ℕ) → Answer log b t → Answer log c t
  pub from : (log : Log) (t : List ℕ) → Answer log c t → Answer log b t

module _ (ks : List ℕ) (l : Line) (ls : List Line) (head : is_head (kind l) ≡ true) where
  -- the head and what follows it
  line-head : numbered_lines ks (l ∷ ls) ≡ (take 1 l ++ numbered_terms [] (rest l)) ∷ numbered_lines (known_behind [] (rest l)) ls
  line-head =
      line_other ks l ls (head-no-atom (kind l) head)
      ∙ ap (λ b. (take 1 l ++ numbered_terms (cond b [] ks) (rest l)) ∷ numbered_lines (known_behind (cond b [] ks) (rest l)) ls) head

  block-answers : SameAnswers (block_of (take 1 l ++ numbered_terms [] (rest l)) (numbered_lines (known_behind [] (rest l)) ls)) (block_of l ls)
  block-answers = record {
    to = λ log t a.
        let s = back-same (names_behind (known_behind [] (rest l)) ls) a.val in record {
          val = back (names_behind (known_behind [] (rest l)) ls) a.val;
          holds = held log a.val (back (names_behind (known_behind [] (rest l)) ls) a.val) (map atom_of (atoms (numbered_lines (known_behind [] (rest l)) ls))) (map atom_of (atoms ls))
              (facts-same (back (names_behind (known_behind [] (rest l)) ls) a.val) a.val (names_behind (known_behind [] (rest l)) ls) s (known_behind [] (rest l)) ls (begins_self (names_behind (known_behind [] (rest l)) ls))) a.holds;
          differ = λ d m. absurd m;
          gives = sym (heads (back (names_behind (known_behind [] (rest l)) ls) a.val) a.val s) ∙ a.gives;
        };
    from = λ log t a.
        let s = forth-same (names_behind (known_behind [] (rest l)) ls) a.val in record {
          val = forth (names_behind (known_behind [] (rest l)) ls) a.val;
          holds = held log a.val (forth (names_behind (known_behind [] (rest l)) ls) a.val) (map atom_of (atoms ls)) (map atom_of (atoms (numbered_lines (known_behind [] (rest l)) ls)))
              (sym (facts-same a.val (forth (names_behind (known_behind [] (rest l)) ls) a.val) (names_behind (known_behind [] (rest l)) ls) s (known_behind [] (rest l)) ls (begins_self (names_behind (known_behind [] (rest l)) ls)))) a.holds;
          differ = λ d m. absurd m;
          gives = heads a.val (forth (names_behind (known_behind [] (rest l)) ls) a.val) s ∙ a.gives;
        };
  }
    where
      -- the head under both
      heads : (f g : ℕ → ℕ) → Same f g (names_behind (known_behind [] (rest l)) ls) → row g (map as_term (rest (take 1 l ++ numbered_terms [] (rest l)))) ≡ row f (map as_term (rest l))
      heads f g s =
          ap (λ z. row g (map as_term z)) (other-rest [] l)
          ∙ terms-same f g (names_behind (known_behind [] (rest l)) ls) s [] (rest l) (names-begin (known_behind [] (rest l)) ls)

-- views with the same rows and the same answers, one after the other
pub record Alike (v w : View) : Type 0 where
  pub rows_are : v.rows ≡ w.rows
  pub answers : SameAnswers v.block w.block

abbrev pub AllAlike : List View → List View → Type 0
AllAlike [] [] = Unit {0}
AllAlike [] (w ∷ ws) = ⊥
AllAlike (v ∷ vs) [] = ⊥
AllAlike (v ∷ vs) (w ∷ ws) = Alike v w × AllAlike vs ws

blocks-on : (p : Kind → Bool) (l : Line) (ls : List Line) → p (kind l) ≡ true → blocks p (l ∷ ls) ≡ view_of l ls ∷ blocks p ls
unfolding blocks
blocks-on p l ls e = ap (λ b. cond b (view_of l ls ∷ blocks p ls) (blocks p ls)) e

blocks-off : (p : Kind → Bool) (l : Line) (ls : List Line) → p (kind l) ≡ false → blocks p (l ∷ ls) ≡ blocks p ls
unfolding blocks
blocks-off p l ls e = ap (λ b. cond b (view_of l ls ∷ blocks p ls) (blocks p ls)) e

-- the blocks of numbered lines mean what the lines' own blocks do: the question's, the lists' and the views'
pub blocks-alike : (p : Kind → Bool) → ((k : Kind) → p k ≡ true → is_head k ≡ true) → (ks : List ℕ) (ls : List Line) → AllAlike (blocks p (numbered_lines ks ls)) (blocks p ls)
unfolding blocks numbered_lines
blocks-alike p heads ks [] = tt
blocks-alike p heads ks (l ∷ ls) = ⊎_elim (go_on (blocks-alike p heads (known_behind [] (rest l)) ls)) (go-off (blocks-alike p heads (known_behind (known_in ks l) (terms_in l)) ls)) (decided (p (kind l)))
  where
    go_on : AllAlike (blocks p (numbered_lines (known_behind [] (rest l)) ls)) (blocks p ls) → p (kind l) ≡ true → AllAlike (blocks p (numbered_lines ks (l ∷ ls))) (blocks p (l ∷ ls))
    go_on r e =
        let h = heads (kind l) e in
        let n = take 1 l ++ numbered_terms [] (rest l) in
        let ms = numbered_lines (known_behind [] (rest l)) ls in
        let one : Alike (view_of n ms) (view_of l ls) = record {
          rows_are = ap rows (behind (known_behind [] (rest l)) ls) ∙ rows_same (names_behind (known_behind [] (rest l)) ls) (drop (length (atoms ls)) ls);
          answers = block-answers ks l ls h;
        } in
        subst (λ vs. AllAlike vs (blocks p (l ∷ ls))) (sym (ap (blocks p) (line-head ks l ls h) ∙ blocks-on p n ms (ap p (kind-same false [] l) ∙ e)))
        (subst (λ ws. AllAlike (view_of n ms ∷ blocks p ms) ws) (sym (blocks-on p l ls e)) (one, r))

    go-off : AllAlike (blocks p (numbered_lines (known_behind (known_in ks l) (terms_in l)) ls)) (blocks p ls) → p (kind l) ≡ false → AllAlike (blocks p (numbered_lines ks (l ∷ ls))) (blocks p (l ∷ ls))
    go-off r e =
        subst (λ vs. AllAlike vs (blocks p (l ∷ ls))) (sym (blocks-off p (before_terms l ++ numbered_terms (known_in ks l) (terms_in l)) (numbered_lines (known_behind (known_in ks l) (terms_in l)) ls) (ap p (kind-same (is_atom (kind l)) (known_in ks l) l) ∙ e)))
        (subst (λ ws. AllAlike (blocks p (numbered_lines (known_behind (known_in ks l) (terms_in l)) ls)) ws) (sym (blocks-off p l ls e)) r)
