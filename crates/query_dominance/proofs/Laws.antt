-- A value in another's place, over lists and functions: a valuation that meets the atoms, changed at one variable and at those that stand once.
use mathlib.Core.Path.{◌≡◌, refl, sym, ap, ◌∙◌, subst}
use mathlib.Core.Bool.{Bool, true, false, cond}
use mathlib.Core.List.{List}
use mathlib.Core.Logic.{◌⊎◌, inl, inr, ⊎_elim}
use Prim.Native.Nat.{ℕ, zero, suc, ◌+◌, ◌-◌, ◌*◌, ◌/◌, ◌%◌, ◌<◌, ◌≤◌}
use native.Mathlib.Omega.{arith}
use native.Mathlib.Decide.{ℕ_discrete, dec_lt}
use borrow.Author.Count.{below_more}
use borrow.Author.Tests.{lt-ltb, le-ltb, eq-eqb, ne_eqb}
use lib.Dec.{ltb, eqb}
use lib.ListN.{length, get_or, set, length-set}
use lib.Seq.{get_or-set_same, get_or-set_other}
use Rattle.query_layout.specs.Layout.{block_head, block_width, names}
use Rattle.sheet_format.specs.Limits.{most_atoms}
use Rattle.query_join.specs.Joins.{value_of, Becomes, Given}
use Rattle.query_join.specs.Parts.{column_term, column_value, FitBy, MarkedAlone, fits_all}
use Rattle.query_join.proofs.Laws.{value-variable, value-constant}
use Rattle.query_answers.proofs.Rows.{given-column, given-length, begun-given}
use Rattle.query_dominance.specs.Dominance.{Dominates, Lone, LoneColumns, ColumnFollows, Replaces, Without, AtomDominates, HeadOnce}

-- ---- a valuation with one variable changed

unfoldable pub changed_at : (ℕ → ℕ) → ℕ → ℕ → ℕ → ℕ
changed_at u x y z = cond (eqb z x) y (u z)

changed-here : (u : ℕ → ℕ) (x y : ℕ) → changed_at u x y x ≡ y
unfolding changed_at
changed-here u x y = rw (eq-eqb x x refl)

changed-there : (u : ℕ → ℕ) (x y z : ℕ) → (z ≡ x → ⊥) → changed_at u x y z ≡ u z
unfolding changed_at
changed-there u x y z f = rw (ne_eqb z x f)

value-here : (u : ℕ → ℕ) (x y t : ℕ) → x < names → t ≡ x → value_of (changed_at u x y) t ≡ y
value-here u x y t lt e = ap (value_of (changed_at u x y)) e ∙ value-variable (changed_at u x y) x lt ∙ changed-here u x y

value_there : (u : ℕ → ℕ) (x y t : ℕ) → (t ≡ x → ⊥) → value_of (changed_at u x y) t ≡ value_of u t
value_there u x y t f = side (dec_lt t names)
  where
    side : Dec (t < names) → value_of (changed_at u x y) t ≡ value_of u t
    side (yes lt) = value-variable (changed_at u x y) t lt ∙ changed-there u x y t f ∙ sym (value-variable u t lt)
    side (no h) = value-constant (changed_at u x y) t (omega arith) ∙ sym (value-constant u t (omega arith))

-- ---- values for terms at places, where a valuation has them already or the term stands at no other place

-- the term of place k is a variable, and no other place that counts has it
pub record AlonePlace (On : ℕ → Type 0) (T : ℕ → ℕ) (k : ℕ) : Type 0 where
  pub name : T k < names
  pub other : (l : ℕ) → On l → (l ≡ k → ⊥) → T l ≡ T k → ⊥

abbrev Ready : (ℕ → Type 0) → (ℕ → ℕ) → (ℕ → ℕ) → (ℕ → ℕ) → Type 0
Ready On T X u = (k : ℕ) → On k → (value_of u (T k) ≡ X k) ⊎ AlonePlace On T k

-- a valuation that has the values at the places before m
pub record ReadyTo (On : ℕ → Type 0) (T X : ℕ → ℕ) (m : ℕ) : Type 0 where
  pub val : ℕ → ℕ
  pub ready : Ready On T X val
  pub done : (k : ℕ) → k < m → On k → value_of val (T k) ≡ X k

module _ (On : ℕ → Type 0) (on? : (k : ℕ) → Dec (On k)) (T X : ℕ → ℕ) where
  -- the place m and those before
  place-more : (m : ℕ) (u : ℕ → ℕ) → ((k : ℕ) → k < m → On k → value_of u (T k) ≡ X k) → (On m → value_of u (T m) ≡ X m) → (k : ℕ) → k < suc m → On k → value_of u (T k) ≡ X k
  place-more m u f here k lt = side (dec_lt k m)
    where
      side : Dec (k < m) → On k → value_of u (T k) ≡ X k
      side (yes h) = f k h
      side (no h) = subst (λ x. On x → value_of u (T x) ≡ X x) (let e : m ≡ k = omega arith in e) here

  -- the value of a variable that stands at no other place
  place-alone : (m : ℕ) → AlonePlace On T m → ReadyTo On T X m → ReadyTo On T X (suc m)
  place-alone m alone r = record { val = u; ready = λ k on. still k on (ℕ_discrete k m); done = place-more m u (λ k lt on. kept k on (λ e. absurd (omega arith)) ∙ r.done k lt on) (λ _. here) }
    where
      u : ℕ → ℕ
      u = changed_at r.val (T m) (X m)

      here : value_of u (T m) ≡ X m
      here = value-here r.val (T m) (X m) (T m) alone.name refl

      kept : (k : ℕ) → On k → (k ≡ m → ⊥) → value_of u (T k) ≡ value_of r.val (T k)
      kept k on f = value_there r.val (T m) (X m) (T k) (alone.other k on f)

      still : (k : ℕ) → On k → Dec (k ≡ m) → (value_of u (T k) ≡ X k) ⊎ AlonePlace On T k
      still k on (yes e) = inl (subst (λ x. value_of u (T x) ≡ X x) (sym e) here)
      still k on (no f) = ⊎_elim (λ e. inl (kept k on f ∙ e)) inr (r.ready k on)

  place-next : (m : ℕ) → Dec (On m) → ReadyTo On T X m → ReadyTo On T X (suc m)
  place-next m (no off) r = record { val = r.val; ready = r.ready; done = place-more m r.val r.done (λ on. absurd (off on)) }
  place-next m (yes on) r =
      ⊎_elim (λ e. record { val = r.val; ready = r.ready; done = place-more m r.val r.done (λ _. e) }) (λ alone. place-alone m alone r) (r.ready m on)

  pub place-all : (m : ℕ) (u : ℕ → ℕ) → Ready On T X u → ReadyTo On T X m
  place-all zero u ready = record { val = u; ready = ready; done = λ k lt. absurd (omega arith) }
  place-all (suc m) u ready = place-next m (on? m) (place-all m u ready)

-- ---- columns

-- a column is free, or it follows
pub column-either : (blk : List ℕ) (j c y b old new : ℕ) (free : List Bool) → LoneColumns blk j free → c < 4 → (get_or free c false ≡ false → ColumnFollows (column_term blk j c) y b old new)
    → Lone blk (j * 5 + 1 + c) ⊎ ColumnFollows (column_term blk j c) y b old new
column-either blk j c y b old new free lone lt f = side (get_or free c false) refl
  where
    side : (r : Bool) → get_or free c false ≡ r → Lone blk (j * 5 + 1 + c) ⊎ ColumnFollows (column_term blk j c) y b old new
    side true e = inl (lone.lone c lt e)
    side false e = inr (f e)

pub lone-more : (blk : List ℕ) (j c : ℕ) (free : List Bool) (r : Bool) → c < length free → ((e : ℕ) → e < c → get_or free e false ≡ true → Lone blk (j * 5 + 1 + e))
    → (r ≡ true → Lone blk (j * 5 + 1 + c)) → (e : ℕ) → e < c + 1 → get_or (set free c r) e false ≡ true → Lone blk (j * 5 + 1 + e)
lone-more blk j c free r inside f here =
    below_more (λ e. get_or (set free c r) e false ≡ true → Lone blk (j * 5 + 1 + e)) c
    (λ e lt is. f e lt (sym (get_or-set_other free c e r false (λ h. absurd (omega arith))) ∙ is))
    (λ is. here (sym (get_or-set_same free c r false inside) ∙ is))

-- ---- facts

-- a fact that does not fit is none that atom j becomes where y is a
pub unfit : (blk facts : List ℕ) (marks : List Bool) (vals : List ℕ) (j i y a r : ℕ) → MarkedAlone y marks → get_or vals y 0 ≡ a → FitBy blk facts marks vals marks j i r → (r ≡ fits_all → ⊥)
    → (v : ℕ → ℕ) → v y ≡ a → Becomes blk facts v j i → ⊥
unfit blk facts marks vals j i y a r alone is f out v e b = side (dec_lt r names)
  where
    at : (x : ℕ) → x < names → get_or marks x false ≡ true → v x ≡ get_or vals x 0
    at x lt on = subst (λ z. v z ≡ get_or vals z 0) (sym (alone.one x lt on)) (e ∙ sym is)

    side : Dec (r < names) → ⊥
    side (yes lt) = (f.ruled lt).out v (at r lt (f.ruled lt).bound) b
    side (no h) = let le = f.range in f.no (let z : r ≡ names = omega arith in z) v at b

-- an atom without the variable stays the fact it is
pub without-replaced : (blk facts : List ℕ) (j y a b : ℕ) → Without blk j y → AtomDominates blk facts j y a b
without-replaced blk facts j y a b none = record {
  replaced = λ v e i lt h. (i, lt, record { relation = refl; columns = λ c c_lt. inr (record { changed = λ is. absurd (none.none c c_lt is); kept = λ _. refl }) });
}

-- ---- a row with another value

-- one of the many that each number below n has
pub chosen : (n : ℕ) (P : ℕ → ℕ → Type 0) → ((j : ℕ) → j < n → (g : ℕ) × P j g) → (h : ℕ → ℕ) × ((j : ℕ) → j < n → P j (h j))
chosen n P f = (λ j. pick j (dec_lt j n), λ j lt. picked j lt (dec_lt j n))
  where
    pick : (j : ℕ) → Dec (j < n) → ℕ
    pick j (yes lt) = (f j lt).0
    pick j (no h) = 0

    picked : (j : ℕ) → j < n → (d : Dec (j < n)) → P j (pick j d)
    picked j lt (yes l) = (f j l).1
    picked j lt (no h) = absurd (h lt)

-- the places of the terms of the first n atoms and of the head
abbrev Counts : ℕ → ℕ → Type 0
Counts n k = (k < block_width) × (((0 < k % 5) × (k < n * 5)) ⊎ (block_head ≤ k))

counts? : (n k : ℕ) → Dec (Counts n k)
counts? n k = side (dec_lt k block_width) (dec_lt 0 (k % 5)) (dec_lt k (n * 5)) (dec_lt k block_head)
  where
    side : Dec (k < block_width) → Dec (0 < k % 5) → Dec (k < n * 5) → Dec (k < block_head) → Dec (Counts n k)
    side (no f) _ _ _ = no (λ h. f h.0)
    side (yes w) _ _ (no h) = yes (w, inr (omega arith))
    side (yes w) (yes t) (yes l) (yes _) = yes (w, inl (t, l))
    side (yes w) (no t) _ (yes h) = no (λ z. ⊎_elim (λ x. t x.0) (λ x. absurd (omega arith)) z.1)
    side (yes w) (yes _) (no l) (yes h) = no (λ z. ⊎_elim (λ x. l x.1) (λ x. absurd (omega arith)) z.1)

-- what the places are to have: the values of the facts chosen, and the row's
unfoldable wanted : List ℕ → (ℕ → ℕ) → List ℕ → ℕ → ℕ
wanted facts h w k = cond (ltb k block_head) (get_or facts (h (k / 5) * 5 + k % 5) 0) (get_or w (k - block_head) 0)

wanted-atom : (facts : List ℕ) (h : ℕ → ℕ) (w : List ℕ) (j c : ℕ) → j < most_atoms → c < 4 → wanted facts h w (j * 5 + 1 + c) ≡ column_value facts (h j) c
unfolding wanted
wanted-atom facts h w j c lt c_lt =
    let e : (j * 5 + 1 + c) / 5 ≡ j = omega arith in
    let m : (j * 5 + 1 + c) % 5 ≡ 1 + c = omega arith in
    let s : h j * 5 + (1 + c) ≡ h j * 5 + 1 + c = omega arith in
    rw (lt-ltb (j * 5 + 1 + c) block_head (omega arith), e, m) (ap (λ x. get_or facts x 0) s)

wanted-head : (facts : List ℕ) (h : ℕ → ℕ) (w : List ℕ) (q : ℕ) → wanted facts h w (block_head + q) ≡ get_or w q 0
unfolding wanted
wanted-head facts h w q =
    let e : block_head + q - block_head ≡ q = omega arith in
    rw (le-ltb (block_head + q) block_head (omega arith), e)

-- what atom j becomes, and the fact that it was
pub record FactChanged (blk facts : List ℕ) (v : ℕ → ℕ) (j y b f : ℕ) : Type 0 where
  pub inside : f < length facts / 5
  pub was : ℕ
  pub met : Becomes blk facts v j was
  pub by : Replaces blk facts j y b was f

module _ (blk facts : List ℕ) (n p y a b : ℕ) (few : n ≤ most_atoms) (in_p : p < 4) (is_name : y < names) (is_y : get_or blk (block_head + p) 0 ≡ y) (once : HeadOnce blk p)
    (all : (j : ℕ) → j < n → AtomDominates blk facts j y a b) (w : List ℕ) (g : Given blk n facts w) (at_a : get_or w p 0 ≡ a) where
  y-is : g.val y ≡ a
  y-is = sym (value-variable g.val y is_name) ∙ ap (value_of g.val) (sym is_y) ∙ given-column blk n facts w g p in_p ∙ at_a

  changed-fact : (j : ℕ) → j < n → (f : ℕ) × FactChanged blk facts g.val j y b f
  changed-fact j lt =
      let m = g.met j lt in
      let r = (all j lt).replaced g.val y-is m.0 m.1 m.2 in
      (r.0, record { inside = r.1; was = m.0; met = m.2; by = r.2 })

  -- a lone variable's place is the only one that counts
  alone-place : (at : ℕ) → Lone blk at → AlonePlace (Counts n) (λ k. get_or blk k 0) at
  alone-place at l = record { name = l.name; other = λ k on f e. (l.others k on.0).not (⊎_elim (λ x. inr x.0) inl on.1) f e }

  module _ (h : ℕ → ℕ) (fits : (j : ℕ) → j < n → FactChanged blk facts g.val j y b (h j)) where
    Start : ℕ → Type 0
    Start k = (value_of (changed_at g.val y b) (get_or blk k 0) ≡ wanted facts h (set w p b) k) ⊎ AlonePlace (Counts n) (λ x. get_or blk x 0) k

    start-column : (j c : ℕ) → j < n → c < 4 → Start (j * 5 + 1 + c)
    unfolding Start
    start-column j c lt c_lt =
        ⊎_elim (λ l. inr (alone-place (j * 5 + 1 + c) l)) (λ f. inl (side f (ℕ_discrete (column_term blk j c) y) ∙ sym (wanted-atom facts h (set w p b) j c (omega arith) c_lt))) (s.by.columns c c_lt)
      where
        s : FactChanged blk facts g.val j y b (h j)
        s = fits j lt

        side : ColumnFollows (column_term blk j c) y b (column_value facts s.was c) (column_value facts (h j) c) → Dec (column_term blk j c ≡ y)
            → value_of (changed_at g.val y b) (column_term blk j c) ≡ column_value facts (h j) c
        side f (yes e) = value-here g.val y b (column_term blk j c) is_name e ∙ sym (f.changed e)
        side f (no e) = value_there g.val y b (column_term blk j c) e ∙ sym (s.met.columns c c_lt) ∙ sym (f.kept e)

    start-head : (q : ℕ) → q < 4 → Start (block_head + q)
    unfolding Start
    start-head q lt = inl (side (ℕ_discrete q p) ∙ sym (wanted-head facts h (set w p b) q))
      where
        long : length w ≡ 4
        long = given-length blk n facts w g

        side : Dec (q ≡ p) → value_of (changed_at g.val y b) (get_or blk (block_head + q) 0) ≡ get_or (set w p b) q 0
        side (yes e) =
            value-here g.val y b (get_or blk (block_head + q) 0) is_name (ap (λ x. get_or blk (block_head + x) 0) e ∙ is_y)
            ∙ sym (ap (λ x. get_or (set w p b) x 0) e ∙ get_or-set_same w p b 0 (let z = long in omega arith))
        side (no f) =
            value_there g.val y b (get_or blk (block_head + q) 0) (λ e. once.other q lt f (e ∙ sym is_y))
            ∙ given-column blk n facts w g q lt ∙ sym (get_or-set_other w p q b 0 f)

    start : (k : ℕ) → Counts n k → Start k
    start k on = ⊎_elim (λ x. subst Start (atom-place x) (start-column (k / 5) (k % 5 - 1) (omega arith) (omega arith))) (λ x. subst Start (head-place x) (start-head (k - block_head) (omega arith))) on.1
      where
        atom-place : (0 < k % 5) × (k < n * 5) → k / 5 * 5 + 1 + (k % 5 - 1) ≡ k
        atom-place x = omega arith

        head-place : block_head ≤ k → block_head + (k - block_head) ≡ k
        head-place le = omega arith

    changed_row : Given blk n facts (set w p b)
    unfolding Start
    changed_row =
        let r = place-all (Counts n) (counts? n) (λ k. get_or blk k 0) (wanted facts h (set w p b)) block_width (changed_at g.val y b) start in
        begun-given blk n facts (set w p b) (length-set w p b ∙ given-length blk n facts w g) (
          r.val,
          record {
            met = λ j lt. (
              h j,
              (fits j lt).inside,
              record {
                relation = (fits j lt).by.relation ∙ (fits j lt).met.relation;
                columns = λ c c_lt.
                    sym (r.done (j * 5 + 1 + c) (omega arith) (omega arith, inl (omega arith, omega arith)) ∙ wanted-atom facts h (set w p b) j c (omega arith) c_lt);
              },
            );
            begins = record { same = λ q lt. r.done (block_head + q) (omega arith) (omega arith, inr (omega arith)) ∙ wanted-head facts h (set w p b) q };
          },
        )

-- b dominates a where each atom allows it
pub dominance : (blk facts : List ℕ) (n p y a b : ℕ) → n ≤ most_atoms → p < 4 → y < names → get_or blk (block_head + p) 0 ≡ y → HeadOnce blk p
    → ((j : ℕ) → j < n → AtomDominates blk facts j y a b) → Dominates blk n facts p a b
dominance blk facts n p y a b few in_p is_name is_y once all = record {
  gives = λ w g e.
      let c = chosen n (λ j f. FactChanged blk facts g.val j y b f) (changed-fact blk facts n p y a b few in_p is_name is_y once all w g e) in
      changed_row blk facts n p y a b few in_p is_name is_y once all w g e c.0 c.1;
}
