-- What the lines of an accepted sheet have, line by line: atoms and heads, and the atoms after a head. Assumes nothing.
use mathlib.Core.Path.{◌≡◌, refl, sym}
use mathlib.Core.Bool.{Bool, true, false, cond}
use mathlib.Core.List.{List, [], ◌∷◌}
use Prim.Native.Nat.{ℕ, zero, suc, ◌+◌, ◌≤◌, ◌<◌}
use native.Mathlib.Omega.{arith}
use lib.Dec.{eqb, leb}
use lib.IntN.{ℤ, pos, negsuc}
use lib.ListN.{length, get_or}
use borrow.Author.Tests.{eqb-true, eqb-false, leb-true, leb-false, not-false}
use Rattle.sheet_format.specs.Table.{Table, relation, columns_of}
use Rattle.sheet_format.specs.Line.{Line, all}
use Rattle.sheet_format.specs.Cause.{Kind, question, saved, view, atom, row, other, kind, rest, second, terms, term, possible, wrong_columns, out_of_range, too_many_blocks, atoms_of, cause, start, next_by, next, refusal, scan, is_head, is_atom, atoms, unsafe, heads, refusal_of}
use Rattle.sheet_format.specs.Answers.{Refusal}
use Rattle.sheet_format.specs.Answers.{Seen}
use Rattle.sheet_format.proofs.Lists.{no_way, both}
pub use Rattle.sheet_format.proofs.Lists.{neither}
use Rattle.sheet_format.proofs.ScanLaws.{accepted-scan, clean_line}
pub use Rattle.sheet_format.proofs.ScanLaws.{Clean}

-- ---- the lines that the scan lets pass

-- the first of the lines that the scan lets pass, and the others
pub scan-first : (table : Table) (l : Line) (ls : List Line) (g : Seen) (b : Line) (n : ℕ) → (scan table g b n (l ∷ ls)).number ≡ 0 → Clean table g l × ((scan table (next g l) l (n + 1) ls).number ≡ 0)
unfolding scan
scan-first table l ls g b n h = go (eqb (cause table g b l) 0) refl h
  where
    r : Refusal
    r = scan table (next g l) l (n + 1) ls

    go : (t : Bool) → eqb (cause table g b l) 0 ≡ t → (cond t r (refusal (cause table g b l) n)).number ≡ 0 → Clean table g l × (r.number ≡ 0)
    go true e f = (clean_line table g b l e, f)
    go false e f = absurd (eqb-false (cause table g b l) 0 e f)

-- the same for the heads
pub heads-first : (l : Line) (ls : List Line) (n : ℕ) → (heads n (l ∷ ls)).number ≡ 0 → (unsafe l (atoms ls) ≡ false) × ((heads (n + 1) ls).number ≡ 0)
unfolding heads
heads-first l ls n h = go (unsafe l (atoms ls)) h
  where
    go : (t : Bool) → (cond t (refusal 8 n) (heads (n + 1) ls)).number ≡ 0 → (t ≡ false) × ((heads (n + 1) ls).number ≡ 0)
    go true f = absurd (omega arith)
    go false f = (refl, f)

pub accepted-heads : (table : Table) (ls : List Line) → (refusal_of table ls).number ≡ 0 → (heads 1 ls).number ≡ 0
unfolding refusal_of
accepted-heads table ls h = let e = accepted-scan table ls h in rw e at h

-- every line of an accepted sheet is without a cause
clean-from : (table : Table) (ls : List Line) (g : Seen) (b : Line) (n : ℕ) → (scan table g b n ls).number ≡ 0 → (i : ℕ) → i < length ls → (s : Seen) × Clean table s (get_or ls i [])
clean-from table [] g b n h i lt = absurd (omega arith)
clean-from table (l ∷ ls) g b n h zero lt = (g, (scan-first table l ls g b n h).0)
clean-from table (l ∷ ls) g b n h (suc i) lt = clean-from table ls (next g l) l (n + 1) (scan-first table l ls g b n h).1 i (omega arith)

pub accepted-clean : (table : Table) (ls : List Line) → (refusal_of table ls).number ≡ 0 → (i : ℕ) → i < length ls → (s : Seen) × Clean table s (get_or ls i [])
accepted-clean table ls h i lt = clean-from table ls start [] 1 (eqb-true _ 0 (accepted-scan table ls h)) i lt

-- ---- atoms

pub record AtomLine (table : Table) (l : Line) : Type 0 where
  pub relation : (r : ℕ) × (second l ≡ pos (suc r))
  pub columns : length (terms l) ≡ columns_of table (second l)
  pub some : 1 ≤ length (terms l)
  pub few : length (terms l) ≤ 4
  pub ranged : all term (terms l) ≡ true

-- what has columns is a relation
related : (table : Table) (z : ℤ) → (columns_of table z ≡ 0 → ⊥) → (r : ℕ) × (z ≡ pos (suc r))
unfolding columns_of relation
related table (pos zero) h = absurd (h refl)
related table (pos (suc r)) h = (r, refl)
related table (negsuc n) h = absurd (h refl)

terms-sized : (l : Line) → possible atom (length l) ≡ true → (1 ≤ length (terms l)) × (length (terms l) ≤ 4)
terms-sized [] e = no_way e
terms-sized (k ∷ []) e = no_way e
terms-sized (k ∷ r ∷ l) e =
    let p = both (leb 3 (length (k ∷ r ∷ l))) _ e in
    let a = leb-true 3 (length (k ∷ r ∷ l)) p.0 in
    let b = leb-true (length (k ∷ r ∷ l)) 6 p.1 in
    (omega arith, omega arith)

atom-by : (table : Table) (l : Line) (k : Kind) → is_atom k ≡ true → possible k (length l) ≡ true → wrong_columns table k l ≡ false → out_of_range k l ≡ false → AtomLine table l
atom-by table l question t p c r = no_way t
atom-by table l saved t p c r = no_way t
atom-by table l view t p c r = no_way t
atom-by table l atom t p c r =
    let s = terms-sized l p in
    let n = neither (eqb (columns_of table (second l)) 0) _ c in
    record {
      relation = related table (second l) (eqb-false _ 0 n.0);
      columns = sym (eqb-true _ _ (not-false _ n.1));
      some = s.0;
      few = s.1;
      ranged = not-false _ r;
    }
atom-by table l row t p c r = no_way t
atom-by table l other t p c r = no_way t

pub atom-line : (table : Table) (g : Seen) (l : Line) → Clean table g l → is_atom (kind l) ≡ true → AtomLine table l
atom-line table g l c t = atom-by table l (kind l) t c.sized c.columns c.ranged

-- ---- heads

pub record HeadLine (l : Line) : Type 0 where
  pub few : length (rest l) ≤ 4
  pub ranged : all term (rest l) ≡ true

rest-sized : (l : Line) → leb (length l) 5 ≡ true → length (rest l) ≤ 4
rest-sized [] e = omega arith
rest-sized (k ∷ l) e = let h = leb-true (length (k ∷ l)) 5 e in omega arith

head-by : (l : Line) (k : Kind) → is_head k ≡ true → possible k (length l) ≡ true → out_of_range k l ≡ false → HeadLine l
head-by l question t p r = record { few = rest-sized l p; ranged = not-false _ r }
head-by l saved t p r = record { few = rest-sized l p; ranged = not-false _ r }
head-by l view t p r = record { few = rest-sized l p; ranged = not-false _ r }
head-by l atom t p r = no_way t
head-by l row t p r = no_way t
head-by l other t p r = no_way t

pub head-line : (table : Table) (g : Seen) (l : Line) → Clean table g l → is_head (kind l) ≡ true → HeadLine l
head-line table g l c t = head-by l (kind l) t c.sized c.ranged

pub accepted-atom : (table : Table) (ls : List Line) → (refusal_of table ls).number ≡ 0 → (i : ℕ) → i < length ls → is_atom (kind (get_or ls i [])) ≡ true → AtomLine table (get_or ls i [])
accepted-atom table ls h i lt t = let (s, c) = accepted-clean table ls h i lt in atom-line table s (get_or ls i []) c t

pub accepted-head : (table : Table) (ls : List Line) → (refusal_of table ls).number ≡ 0 → (i : ℕ) → i < length ls → is_head (kind (get_or ls i [])) ≡ true → HeadLine (get_or ls i [])
accepted-head table ls h i lt t = let (s, c) = accepted-clean table ls h i lt in head-line table s (get_or ls i []) c t

-- ---- the atoms after a head

-- each of the lines is an atom by the rules
abbrev pub AtomLines : (table : Table) → List Line → Type 0
AtomLines table [] = Unit {0}
AtomLines table (l ∷ ls) = AtomLine table l × AtomLines table ls

room-left : (g : Seen) (k : Kind) → is_atom k ≡ true → too_many_blocks g k ≡ false → g.atoms < 6
room-left g question t e = no_way t
room-left g saved t e = no_way t
room-left g view t e = no_way t
room-left g atom t e = go (eqb g.block 3) (leb-false (atoms_of g.block) g.atoms e)
  where
    go : (b : Bool) → g.atoms < cond b 3 6 → g.atoms < 6
    go true h = omega arith
    go false h = h
room-left g row t e = no_way t
room-left g other t e = no_way t

more-atoms : (g : Seen) (k : Kind) (n : ℕ) → is_atom k ≡ true → (next_by g k n).atoms ≡ g.atoms + 1
more-atoms g question n t = no_way t
more-atoms g saved n t = no_way t
more-atoms g view n t = no_way t
more-atoms g atom n t = refl
more-atoms g row n t = no_way t
more-atoms g other n t = no_way t

pub no-atoms : (g : Seen) (k : Kind) (n : ℕ) → is_head k ≡ true → (next_by g k n).atoms ≡ 0
no-atoms g question n t = refl
no-atoms g saved n t = refl
no-atoms g view n t = refl
no-atoms g atom n t = no_way t
no-atoms g row n t = no_way t
no-atoms g other n t = no_way t

-- the atoms at the front of what the scan lets pass are atoms by the rules, and at most six with those before
pub front-atoms : (table : Table) (ls : List Line) (g : Seen) (b : Line) (n : ℕ) → g.atoms ≤ 6 → (scan table g b n ls).number ≡ 0 → AtomLines table (atoms ls) × (length (atoms ls) + g.atoms ≤ 6)
unfolding atoms next
front-atoms table [] g b n le h = (tt, omega arith)
front-atoms table (l ∷ ls) g b n le h = go (λ w. front-atoms table ls (next g l) l (n + 1) w (scan-first table l ls g b n h).1) (is_atom (kind l)) refl
  where
    c : Clean table g l
    c = (scan-first table l ls g b n h).0

    go : (((next g l).atoms ≤ 6) → AtomLines table (atoms ls) × (length (atoms ls) + (next g l).atoms ≤ 6)) → (t : Bool) → is_atom (kind l) ≡ t → AtomLines table (cond t (l ∷ atoms ls) []) × (length (cond t (l ∷ atoms ls) []) + g.atoms ≤ 6)
    go ih true e =
        let r = room-left g (kind l) e c.room in
        let m = more-atoms g (kind l) (length (rest l)) e in
        let q = ih (omega arith) in
        ((atom-line table g l c e, q.0), let w = q.1 in omega arith)
    go ih false e = (tt, omega arith)
