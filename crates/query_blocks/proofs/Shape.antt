-- Each block of an accepted sheet is shaped, and has one to six atoms. Assumes nothing.
use mathlib.Core.Path.{◌≡◌, refl, sym, ap, ◌∙◌, subst}
use mathlib.Core.Bool.{Bool, true, false, cond, not, ◌&&◌, ◌||◌}
use mathlib.Core.List.{List, [], ◌∷◌, map}
use mathlib.Core.Logic.{inl, inr}
use Prim.Native.Nat.{ℕ, zero, suc, ◌+◌, ◌≤◌, ◌<◌}
use native.Mathlib.Omega.{arith}
use lib.Dec.{eqb, ltb, leb-suc-suc, eqb-suc-zero}
use lib.IntN.{ℤ, pos, negsuc}
use lib.ListN.{length, length-map}
use borrow.Author.Tests.{eqb-true, ltb-true, ltb-false, lt-ltb, le-ltb, not-true, not-false}
use Rattle.query_layout.specs.Layout.{names}
use Rattle.sheet_format.specs.Limits.{constant_end, most_atoms}
use Rattle.sheet_format.specs.Table.{Table, columns_of}
use Rattle.sheet_format.specs.Line.{Line, all, null, natural}
use Rattle.sheet_format.specs.Cause.{kind, rest, second, terms, term, is_term, or_out, term_of, scan, start, next, is_head, atoms, same, occurs, bound, unsafe, heads, refusal_of}
use Rattle.sheet_format.specs.Answers.{Seen}
use Rattle.sheet_format.specs.Answers.FieldTerm.{Constant, Variable}
use Rattle.sheet_format.proofs.Lists.{no_way, both, neither}
use Rattle.sheet_format.proofs.ScanLaws.{accepted-scan, Clean}
use Rattle.query_meaning.specs.Meaning.{con, var, Atom, Block, In}
use Rattle.query_meaning.specs.Blocks.{View, as_term, atom_of, block_of, view_of, blocks, all_blocks, nowhere, nth, block_at}
use Rattle.query_encoding.specs.Encoding.{Shaped, has_block}
use Rattle.query_blocks.proofs.Accepted.{scan-first, heads-first, accepted-heads, AtomLine, AtomLines, HeadLine, head-line, no-atoms, front-atoms}

-- ---- elements

module _ {A : Type 0} where
  -- all pass, so each does
  pub all_in : (p : A → Bool) (l : List A) (x : A) → all p l ≡ true → In x l → p x ≡ true
  all_in p [] x h i = absurd i
  all_in p (y ∷ l) x h (inl e) = ap p e ∙ (both (p y) (all p l) h).0
  all_in p (y ∷ l) x h (inr i) = all_in p l x (both (p y) (all p l) h).1 i

  -- not all pass, so one does not
  pub some_in : (p : A → Bool) (l : List A) → all p l ≡ false → (x : A) × In x l × (p x ≡ false)
  some_in p [] h = no_way (sym h)
  some_in p (y ∷ l) h = go (p y) refl h (some_in p l)
    where
      go : (t : Bool) → p y ≡ t → t && all p l ≡ false → (all p l ≡ false → (x : A) × In x l × (p x ≡ false)) → (x : A) × In x (y ∷ l) × (p x ≡ false)
      go false e h ih = (y, inl refl, e)
      go true e h ih = let (x, i, f) = ih h in (x, inr i, f)

  pub in_map : {B : Type 0} (f : A → B) (l : List A) (x : A) → In x l → In (f x) (map f l)
  in_map f [] x i = absurd i
  in_map f (y ∷ l) x (inl e) = inl (ap f e)
  in_map f (y ∷ l) x (inr i) = inr (in_map f l x i)

  pub from-map : {B : Type 0} (f : A → B) (l : List A) (b : B) → In b (map f l) → (x : A) × In x l × (b ≡ f x)
  from-map f [] b i = absurd i
  from-map f (y ∷ l) b (inl e) = (y, inl refl, e)
  from-map f (y ∷ l) b (inr i) = let (x, j, e) = from-map f l b i in (x, inr j, e)

pub atom_in : (table : Table) (ls : List Line) (l : Line) → AtomLines table ls → In l ls → AtomLine table l
atom_in table [] l a i = absurd i
atom_in table (k ∷ ls) l a (inl e) = subst (AtomLine table) (sym e) a.0
atom_in table (k ∷ ls) l a (inr i) = atom_in table ls l a.1 i

-- ---- terms

-- a variable among the words of terms is a negative word
pub variable-word : (x : ℕ) (z : ℤ) → var x ≡ as_term z → (n : ℕ) × (x ≡ suc n) × (z ≡ negsuc n)
variable-word x (pos n) e = let z : ◌≡◌ {A = ℕ} 0 1 = cc in absurd (omega arith)
variable-word x (negsuc n) e = (n, (cc), refl)

-- and one in range is 1 to 12
variable-range : (n : ℕ) → term (negsuc n) ≡ true → n < 12
unfolding term_of
variable-range n e = go (ltb n 12) refl e
  where
    go : (t : Bool) → ltb n 12 ≡ t → is_term (or_out t (Variable (suc n))) ≡ true → n < 12
    go true f e = ltb-true n 12 f
    go false f e = no_way e

named-below : (ts : List ℤ) → all term ts ≡ true → (x : ℕ) → In (var x) (map as_term ts) → x < names
named-below ts h x i =
    let (z, j, e) = from-map as_term ts (var x) i in
    let (n, f, g) = variable-word x z e in
    let lt = variable-range n (ap term (sym g) ∙ all_in term ts z h j) in
    omega arith

-- a constant's word is its number
constant-word : (c : ℕ) (z : ℤ) → con c ≡ as_term z → z ≡ pos c
constant-word c (pos n) e = ap pos (cc)
constant-word c (negsuc n) e = let z : ◌≡◌ {A = ℕ} 0 1 = cc in absurd (omega arith)

constant-range : (n : ℕ) → term (pos n) ≡ true → n < constant_end
unfolding term_of
constant-range n e = go (ltb n constant_end) refl e
  where
    go : (t : Bool) → ltb n constant_end ≡ t → is_term (or_out t (Constant n)) ≡ true → n < constant_end
    go true f e = ltb-true n constant_end f
    go false f e = no_way e

pub constant-below : (ts : List ℤ) → all term ts ≡ true → (c : ℕ) → In (con c) (map as_term ts) → c < constant_end
constant-below ts h c i =
    let (z, j, e) = from-map as_term ts (con c) i in
    constant-range c (ap term (sym (constant-word c z e)) ∙ all_in term ts z h j)

-- two words that are the same
pub same_word : (m n : ℤ) → same m n ≡ true → m ≡ n
same_word (pos m) (pos n) e =
    let p = both (not (ltb m n)) (not (ltb n m)) e in
    let a = ltb-false m n (not-true _ p.0) in
    let b = ltb-false n m (not-true _ p.1) in
    ap pos (omega arith)
same_word (pos m) (negsuc n) e = no_way e
same_word (negsuc m) (pos n) e = no_way e
same_word (negsuc m) (negsuc n) e =
    let p = both (not (ltb n m)) (not (ltb m n)) e in
    let a = ltb-false n m (not-true _ p.0) in
    let b = ltb-false m n (not-true _ p.1) in
    ap negsuc (omega arith)

-- ---- one block

-- a variable that the atoms bind stands in one of them
bound_in : (ls : List Line) (n : ℕ) → bound ls (negsuc n) ≡ true → (a : Atom) × In a (map atom_of ls) × In (var (suc n)) a.terms
bound_in ls n h =
    let (l, i, e) = some_in (λ a. not (occurs (negsuc n) (terms a))) ls (not-true _ h) in
    let (z, j, f) = some_in (λ t. not (same (negsuc n) t)) (terms l) (not-true _ (not-false _ e)) in
    let g = same_word (negsuc n) z (not-false _ f) in
    (atom_of l, in_map atom_of ls l i, subst (λ w. In (as_term w) (map as_term (terms l))) (sym g) (in_map as_term (terms l) z j))

-- a block of an accepted sheet
pub record AcceptedBlock (table : Table) (b : Block) : Type 0 where
  pub shaped : Shaped table b
  pub some : 1 ≤ length b.atoms
  pub few : length b.atoms ≤ most_atoms
  pub small : (c : ℕ) → In (con c) b.head → c < constant_end

atom-columns : (table : Table) (l : Line) → AtomLine table l → length (map as_term (terms l)) ≡ columns_of table (pos (natural (second l)))
atom-columns table l a =
    let (r, e) = a.relation in
    length-map (terms l) as_term ∙ a.columns ∙ ap (columns_of table) (e ∙ ap (λ z. pos (natural z)) (sym e))

some-lines : (ls : List Line) → null ls ≡ false → 1 ≤ length ls
some-lines [] e = no_way (sym e)
some-lines (l ∷ ls) e = omega arith

block-fine : (table : Table) (l : Line) (ls : List Line) → HeadLine l → AtomLines table (atoms ls) → length (atoms ls) ≤ most_atoms → null (atoms ls) ≡ false → all (bound (atoms ls)) (rest l) ≡ true → AcceptedBlock table (block_of l ls)
block-fine table l ls d a few n b =
    record {
      shaped = record {
        short = let w = d.few in simp length-map (omega arith);
        formed = λ x i.
            let (k, j, e) = from-map atom_of (atoms ls) x i in
            let m = atom_in table (atoms ls) k a j in
            let c = atom-columns table k m in
            let w = m.few in
            subst (λ y. (length y.terms ≡ columns_of table (pos y.rel)) × (length y.terms ≤ 4)) (sym e) (c, simp length-map (omega arith));
        named = λ x i v j.
            let (k, q, e) = from-map atom_of (atoms ls) x i in
            let m = atom_in table (atoms ls) k a q in
            named-below (terms k) m.ranged v (subst (λ y. In (var v) y.terms) e j);
        safe = λ x i.
            let (z, j, e) = from-map as_term (rest l) (var x) i in
            let (n, f, g) = variable-word x z e in
            let t = all_in (bound (atoms ls)) (rest l) z b j in
            subst (λ y. (c : Atom) × In c (map atom_of (atoms ls)) × In (var y) c.terms) (sym f) (bound_in (atoms ls) n (ap (bound (atoms ls)) (sym g) ∙ t));
        plain = refl;
      };
      some = let w = some-lines (atoms ls) n in simp length-map w;
      few = simp length-map few;
      small = constant-below (rest l) d.ranged;
    }

-- ---- the blocks one after the other

-- the same over the list of blocks
abbrev pub is_nth : List View → ℕ → Bool
is_nth vs k = not (eqb k 0 || ltb (length vs) k)

abbrev pub block_nth : List View → ℕ → Block
block_nth vs zero = nowhere.block
block_nth vs (suc n) = (nth vs n).block

pub block_at-block_nth : (ls : List Line) (k : ℕ) → block_at ls k ≡ block_nth (all_blocks ls) k
block_at-block_nth ls zero = refl
block_at-block_nth ls (suc k) = refl

pub blocks-head : (l : Line) (ls : List Line) → is_head (kind l) ≡ true → all_blocks (l ∷ ls) ≡ view_of l ls ∷ all_blocks ls
unfolding blocks
blocks-head l ls e = rw e refl

pub blocks-other : (l : Line) (ls : List Line) → is_head (kind l) ≡ false → all_blocks (l ∷ ls) ≡ all_blocks ls
unfolding blocks
blocks-other l ls e = rw e refl

nth-by : (vs : List View) (k : ℕ) → is_nth vs (suc k) ≡ not (ltb (length vs) (suc k))
nth-by vs k = ap (λ t. not (t || ltb (length vs) (suc k))) (eqb-suc-zero k)

-- the first, and those past it
pub nth-first : (v : View) (vs : List View) → is_nth (v ∷ vs) 1 ≡ true
nth-first v vs = rw (le-ltb (suc (length vs)) 1 (omega arith)) refl

pub nth_past : (v : View) (vs : List View) (k : ℕ) → is_nth (v ∷ vs) (suc (suc k)) ≡ is_nth vs (suc k)
nth_past v vs k = nth-by (v ∷ vs) (suc k) ∙ ap not (leb-suc-suc (suc (length vs)) (suc k)) ∙ sym (nth-by vs k)

pub no-nth : (k : ℕ) → is_nth [] k ≡ false
no-nth zero = refl
no-nth (suc k) = nth-by [] k ∙ ap not (lt-ltb 0 (suc k) (omega arith))

-- ---- each block is shaped

Each : (table : Table) → List Line → Type 0
Each table ls = (k : ℕ) → is_nth (all_blocks ls) k ≡ true → AcceptedBlock table (block_nth (all_blocks ls) k)

each_more : (table : Table) (v : View) (vs : List View) → AcceptedBlock table v.block → ((k : ℕ) → is_nth vs k ≡ true → AcceptedBlock table (block_nth vs k)) → (k : ℕ) → is_nth (v ∷ vs) k ≡ true → AcceptedBlock table (block_nth (v ∷ vs) k)
each_more table v vs f ih zero e = no_way e
each_more table v vs f ih (suc zero) e = f
each_more table v vs f ih (suc (suc k)) e = ih (suc k) (sym (nth_past v vs k) ∙ e)

safe-by : (l : Line) (ls : List Line) → is_head (kind l) ≡ true → unsafe l ls ≡ false → (null ls ≡ false) × (all (bound ls) (rest l) ≡ true)
safe-by l ls e u =
    let p = neither (null ls) (not (all (bound ls) (rest l))) (sym (ap (λ t. t && (null ls || not (all (bound ls) (rest l)))) e) ∙ u) in
    (p.0, not-false _ p.1)

each_from : (table : Table) (ls : List Line) (g : Seen) (b : Line) (n m : ℕ) → (scan table g b n ls).number ≡ 0 → (heads m ls).number ≡ 0 → Each table ls
unfolding Each blocks next
each_from table [] g b n m s h = λ k e. no_way (sym (no-nth k) ∙ e)
each_from table (l ∷ ls) g b n m s h = go (each_from table ls (next g l) l (n + 1) (m + 1) (scan-first table l ls g b n s).1 (heads-first l ls m h).1) (is_head (kind l)) refl
  where
    c : Clean table g l
    c = (scan-first table l ls g b n s).0

    go : Each table ls → (t : Bool) → is_head (kind l) ≡ t → (k : ℕ) → is_nth (cond t (view_of l ls ∷ all_blocks ls) (all_blocks ls)) k ≡ true → AcceptedBlock table (block_nth (cond t (view_of l ls ∷ all_blocks ls) (all_blocks ls)) k)
    go ih true e =
        let z = no-atoms g (kind l) (length (rest l)) e in
        let a = front-atoms table ls (next g l) l (n + 1) (omega arith) (scan-first table l ls g b n s).1 in
        let u = safe-by l (atoms ls) e (heads-first l ls m h).0 in
        each_more table (view_of l ls) (all_blocks ls) (block-fine table l ls (head-line table g l c e) a.0 (let w = a.1 in omega arith) u.0 u.1) ih
    go ih false e = ih

pub accepted-fine : (table : Table) (ls : List Line) → (refusal_of table ls).number ≡ 0 → (k : ℕ) → has_block ls k ≡ true → AcceptedBlock table (block_at ls k)
unfolding Each
accepted-fine table ls h k e = subst (AcceptedBlock table) (sym (block_at-block_nth ls k)) (each_from table ls start [] 1 1 (eqb-true _ 0 (accepted-scan table ls h)) (accepted-heads table ls h) k e)

pub accepted-shaped : (table : Table) (ls : List Line) → (refusal_of table ls).number ≡ 0 → (k : ℕ) → has_block ls k ≡ true → Shaped table (block_at ls k)
accepted-shaped table ls h k e = (accepted-fine table ls h k e).shaped
