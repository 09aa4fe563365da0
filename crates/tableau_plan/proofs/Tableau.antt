-- The tableau: its terms under a state, its facts, and its copies one by one. Assumes nothing.
use mathlib.Core.Path.{◌≡◌, refl, sym, ap, ◌∙◌}
use mathlib.Core.List.{List, [], ◌∷◌, ◌++◌, map, append_assoc}
use mathlib.Core.Logic.{inl, inr}
use Prim.Native.Nat.{ℕ, zero, suc, ◌+◌, ◌-◌, ◌*◌, ◌<◌, ◌≤◌}
use native.Mathlib.Omega.{arith}
use lib.ListN.{length, get_or, length-map, get_or-map}
use borrow.Author.Tests.{lt-ltb, le-ltb}
use Rattle.query_layout.specs.Layout.{names}
use Rattle.sheet_format.specs.Limits.{constant_end, most_rows}
use Rattle.tableau_layout.specs.Layout.{slot_end}
use Rattle.sheet_format.specs.Line.{gather}
use Rattle.sheet_format.proofs.Lists.{map_append}
use Rattle.query_meaning.specs.Meaning.{Term, con, var, Fact, value, row, fact_of, Atom, Block}
use Rattle.query_encoding.specs.Encoding.{term_number, term_at, FactNumbers}
use Rattle.case_verdicts.specs.Accepted.{width, FineTerm, Fine}
use Rattle.case_verdicts.specs.Sheets.{top}
use Rattle.case_verdicts.specs.Table.{Table, relation, owed}
use Rattle.case_verdicts.specs.Verdict.{Sheet}
use Rattle.case_verdicts.specs.Tableau.{Job, Copy, later, numbered, State, copy, copy_facts, with_parents, tableau_log, jobs, listed, bare}
use Rattle.tableau_plan.specs.Plan.{tableau_at, slot_value, tableau_facts}
use Rattle.tableau_plan.specs.Parts.{slot_of, PlacedAtom, unplaced, placed_in, owed_atoms, with_owed, own_atoms, atoms_from, PlacedNumbers}

-- ---- a term of a copy under a state

pub slot-value : (s : State) (k : ℕ) (t : Term) → k ≤ most_rows → FineTerm top t → slot_value s (slot_of k (term_number t)) ≡ value (copy s k) t
unfolding slot_value slot_of width
slot-value s k (con c) h f =
    let e : c + names + (slot_end - names) - slot_end ≡ c = omega arith in
    let a : slot_of k (c + names) ≡ c + names + (slot_end - names) = simp (le-ltb (c + names) names (omega arith), lt-ltb (c + names) (constant_end + names) (omega arith)) in
    ap (slot_value s) a ∙ simp (le-ltb (c + names + (slot_end - names)) slot_end (omega arith)) e
slot-value s k (var x) h f =
    let a : slot_of k x ≡ k * names + x = simp (lt-ltb x names f) in
    ap (slot_value s) a ∙ simp (lt-ltb (k * names + x) slot_end (omega arith))

pub term-fine : (ts : List Term) → Fine top ts → (c : ℕ) → FineTerm top (term_at ts c)
term-fine [] h c = omega arith
term-fine (t ∷ ts) h zero = h t (inl refl)
term-fine (t ∷ ts) h (suc c) = term-fine ts (λ u m. h u (inr m)) c

-- ---- the facts of the tableau

pub tableau_length : (p : List ℕ) (s : State) (a n : ℕ) → length (tableau_facts p s a n) ≡ n * 5
unfolding tableau_facts
tableau_length p s a zero = refl
tableau_length p s a (suc n) = let e = tableau_length p s (suc a) n in omega arith

pub tableau_relation : (p : List ℕ) (s : State) (a n i : ℕ) → i < n → get_or (tableau_facts p s a n) (i * 5) 0 ≡ tableau_at p (a + i) 0
unfolding tableau_facts
tableau_relation p s a zero i h = absurd (omega arith)
tableau_relation p s a (suc n) zero h = ap (λ y. tableau_at p y 0) (let e : a ≡ a + 0 = omega arith in e)
tableau_relation p s a (suc n) (suc i) h =
    let e : suc i * 5 ≡ suc (suc (suc (suc (suc (i * 5))))) = omega arith in
    ap (λ y. get_or (tableau_facts p s a (suc n)) y 0) e ∙ tableau_relation p s (suc a) n i (omega arith) ∙ ap (λ y. tableau_at p y 0) (let e : suc a + i ≡ a + suc i = omega arith in e)

pub tableau_term : (p : List ℕ) (s : State) (a n i c : ℕ) → i < n → c < 4 → get_or (tableau_facts p s a n) (i * 5 + 1 + c) 0 ≡ slot_value s (get_or p ((a + i) * 5 + 1 + c) 0)
unfolding tableau_facts
tableau_term p s a zero i c h f = absurd (omega arith)
tableau_term p s a (suc n) zero zero h f = ap (λ y. slot_value s (get_or p y 0)) (let e : a * 5 + 1 ≡ (a + 0) * 5 + 1 + 0 = omega arith in e)
tableau_term p s a (suc n) zero (suc zero) h f = ap (λ y. slot_value s (get_or p y 0)) (let e : a * 5 + 2 ≡ (a + 0) * 5 + 1 + 1 = omega arith in e)
tableau_term p s a (suc n) zero (suc (suc zero)) h f = ap (λ y. slot_value s (get_or p y 0)) (let e : a * 5 + 3 ≡ (a + 0) * 5 + 1 + 2 = omega arith in e)
tableau_term p s a (suc n) zero (suc (suc (suc zero))) h f = ap (λ y. slot_value s (get_or p y 0)) (let e : a * 5 + 4 ≡ (a + 0) * 5 + 1 + 3 = omega arith in e)
tableau_term p s a (suc n) zero (suc (suc (suc (suc c)))) h f = absurd (omega arith)
tableau_term p s a (suc n) (suc i) c h f =
    let e : suc i * 5 + 1 + c ≡ suc (suc (suc (suc (suc (i * 5 + 1 + c))))) = omega arith in
    ap (λ y. get_or (tableau_facts p s a (suc n)) y 0) e ∙ tableau_term p s (suc a) n i c (omega arith) f ∙ ap (λ y. slot_value s (get_or p y 0)) (let e : (suc a + i) * 5 + 1 + c ≡ (a + suc i) * 5 + 1 + c = omega arith in e)

-- an atom of a copy as a fact
abbrev pub placed_fact : State → PlacedAtom → Fact
placed_fact s a = fact_of (copy s a.number) a.atom

pub placed-facts : (p : List ℕ) (s : State) (l : List PlacedAtom) (a : ℕ) → ((i : ℕ) → i < length l → PlacedNumbers p (a + i) (get_or l i unplaced)) → FactNumbers (tableau_facts p s a (length l)) (map (placed_fact s) l)
placed-facts p s l a h =
    let m = length-map l (placed_fact s) in
    record {
      count = tableau_length p s a (length l) ∙ ap (λ n. n * 5) (sym m);
      relation = λ i k. tableau_relation p s a (length l) i (omega arith) ∙ (h i (omega arith)).relation ∙ ap (λ (f : Fact). f.rel) (sym (get_or-map (placed_fact s) l i unplaced));
      values = λ i k c f.
          tableau_term p s a (length l) i c (omega arith) f
          ∙ (h i (omega arith)).terms s c f
          ∙ sym (get_or-map (value (copy s (get_or l i unplaced).number)) (get_or l i unplaced).atom.terms c (con 0))
          ∙ ap (λ (f : Fact). get_or f.row c 0) (sym (get_or-map (placed_fact s) l i unplaced));
    }

-- ---- the facts of the copies, and what they owe

blocks_of : List Job → List Block
blocks_of js = map (λ j. j.block) js

module _ {A B : Type 0} where
  gather-same : (f g : A → List B) → ((x : A) → f x ≡ g x) → (l : List A) → gather f l ≡ gather g l
  gather-same f g e [] = refl
  gather-same f g e (x ∷ l) = ap (λ t. t ++ gather f l) (e x) ∙ ap (λ t. g x ++ t) (gather-same f g e l)

  gather-map : {C : Type 0} (f : B → List C) (h : A → B) (l : List A) → gather f (map h l) ≡ gather (λ x. f (h x)) l
  gather-map f h [] = refl
  gather-map f h (x ∷ l) = ap (λ t. f (h x) ++ t) (gather-map f h l)

gather_append : {A B : Type 0} (f : A → List B) (l m : List A) → gather f (l ++ m) ≡ gather f l ++ gather f m
gather_append f [] m = refl
gather_append f (x ∷ l) m = ap (λ t. f x ++ t) (gather_append f l m) ∙ sym (append_assoc (f x) (gather f l) (gather f m))

gather-twice : {A B C : Type 0} (f : B → List C) (g : A → List B) (l : List A) → gather f (gather g l) ≡ gather (λ x. gather f (g x)) l
gather-twice f g [] = refl
gather-twice f g (x ∷ l) = gather_append f (g x) (gather g l) ∙ ap (λ t. gather f (g x) ++ t) (gather-twice f g l)

owed-placed : (s : State) (k n : ℕ) (ts : List Term) → map (placed_fact s) (placed_in k (owed_atoms n ts)) ≡ owed n (row (copy s k) ts)
owed-placed s k zero ts = refl
owed-placed s k (suc n) ts = refl

-- by a table
module _ (table : Table) where
  placed_with_owed : (s : State) (k : ℕ) (a : Atom) → map (placed_fact s) (placed_in k (with_owed table a)) ≡ with_parents table (fact_of (copy s k) a)
  placed_with_owed s k a = ap (λ t. fact_of (copy s k) a ∷ t) (owed-placed s k (relation table a.rel).parent a.terms)

  placed-map : (s : State) (k : ℕ) (l : List Atom) → map (placed_fact s) (own_atoms table k l) ≡ gather (with_parents table) (map (fact_of (copy s k)) l)
  placed-map s k [] = refl
  placed-map s k (a ∷ l) =
      ap (map (placed_fact s)) (map_append (λ b. record { number = k; atom = b }) (with_owed table a) (gather (with_owed table) l))
      ∙ map_append (placed_fact s) (placed_in k (with_owed table a)) (own_atoms table k l)
      ∙ ap (λ t. t ++ map (placed_fact s) (own_atoms table k l)) (placed_with_owed s k a)
      ∙ ap (λ t. with_parents table (fact_of (copy s k) a) ++ t) (placed-map s k l)

  -- the facts of jobs whose numbers start at m
  abbrev from : State → ℕ → Copy → List Fact
  from s m c = gather (with_parents table) (map (fact_of (copy s (m + c.number))) c.job.block.atoms)

  from_next : (s : State) (m : ℕ) (c : Copy) → from s m (later c) ≡ from s (suc m) c
  from_next s m c = ap (λ n. gather (with_parents table) (map (fact_of (copy s n)) c.job.block.atoms)) (let e : m + suc c.number ≡ suc m + c.number = omega arith in e)

  facts-from : (s : State) (m : ℕ) (js : List Job) → gather (from s m) (numbered js) ≡ map (placed_fact s) (atoms_from table m (blocks_of js))
  unfolding blocks_of
  facts-from s m [] = refl
  facts-from s m (j ∷ js) =
      let z : m + 0 ≡ m = omega arith in
      ap (λ n. gather (with_parents table) (map (fact_of (copy s n)) j.block.atoms) ++ gather (from s m) (map later (numbered js))) z
      ∙ ap (λ t. gather (with_parents table) (map (fact_of (copy s m)) j.block.atoms) ++ t)
      (gather-map (from s m) later (numbered js) ∙ gather-same (λ c. from s m (later c)) (from s (suc m)) (from_next s m) (numbered js) ∙ facts-from s (suc m) js)
      ∙ ap (λ t. t ++ map (placed_fact s) (atoms_from table (suc m) (blocks_of js))) (sym (placed-map s m j.block.atoms))
      ∙ sym (map_append (placed_fact s) (own_atoms table m j.block.atoms) (atoms_from table (suc m) (blocks_of js)))

  copies-from : (s : State) (c : Copy) → gather (with_parents table) (copy_facts s c) ≡ from s 0 c
  copies-from s c = ap (λ n. gather (with_parents table) (map (fact_of (copy s n)) c.job.block.atoms)) (let e : c.number ≡ 0 + c.number = omega arith in e)

pub log-placed : (x : Sheet) (s : State) → tableau_log x s ≡ map (placed_fact s) (atoms_from x.table 0 (map (λ (j : Job). j.block) (jobs x)))
unfolding blocks_of tableau_log
log-placed x s =
    gather-twice (with_parents x.table) (copy_facts s) (numbered (jobs x))
    ∙ gather-same (λ c. gather (with_parents x.table) (copy_facts s c)) (from x.table s 0) (copies-from x.table s) (numbered (jobs x))
    ∙ facts-from x.table s 0 (jobs x)

pub bare-placed : (x : Sheet) (s : State) → tableau_log (bare x) s ≡ map (placed_fact s) (atoms_from x.table 1 (map (λ (j : Job). j.block) (gather listed x.views)))
bare-placed x s = log-placed (bare x) s
