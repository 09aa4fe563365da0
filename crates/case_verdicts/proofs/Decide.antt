-- Tests that compute and bring the proof of what they find. The answers of a block are found among all valuations over the log's values.
use mathlib.Core.Path.{◌≡◌, refl, sym, ap, ◌∙◌, subst}
use mathlib.Core.Bool.{Bool, true, false, cond}
use mathlib.Core.List.{List, [], ◌∷◌, map}
use mathlib.Core.Logic.{◌⊎◌, inl, inr, ⊎_elim}
use Prim.Native.Nat.{ℕ, ◌<◌, ◌≤◌}
use native.Mathlib.Omega.{arith}
use lib.Dec.{eqb}
use lib.ListN.{length, take}
use borrow.Author.Tests.{eqb-true, eqb-false}
pub use Rattle.list_laws.proofs.Order.{less?}
use Rattle.sheet_format.specs.Line.{gather}
use Rattle.query_meaning.specs.Meaning.{Term, con, var, Fact, Log, Atom, Apart, Block, In, value, row, fact, fact_of, Holds, Differ, Answer}
use Rattle.query_meaning.specs.Evaluate.{◌≺◌}
use Rattle.query_blocks.proofs.Shape.{in_map}
use Rattle.case_verdicts.specs.Table.{Table, relation, SameKey}
use Rattle.case_verdicts.specs.Accepted.{variable, variables, Bound, Safe}
use Rattle.case_verdicts.proofs.Lists.{in-gather, of_gather}
use Rattle.case_verdicts.proofs.Laws.{same_row}
use Rattle.case_verdicts.proofs.Distinct.{once, of_once, in-once}

abbrev pub same? : Discrete ℕ
same? m n = go (eqb m n) refl
  where
    go : (b : Bool) → eqb m n ≡ b → Dec (m ≡ n)
    go true e = yes (eqb-true m n e)
    go false e = no (eqb-false m n e)

pub cons_eq : {m n : ℕ} {l r : List ℕ} → m ≡ n → l ≡ r → m ∷ l ≡ n ∷ r
cons_eq p q = λ i. p i ∷ q i

pub head_eq : {m n : ℕ} {l r : List ℕ} → m ∷ l ≡ n ∷ r → m ≡ n
head_eq e = cc

pub tail_eq : {m n : ℕ} {l r : List ℕ} → m ∷ l ≡ n ∷ r → l ≡ r
tail_eq e = cc

pub nil_cons : {n : ℕ} {l : List ℕ} → [] ≡ n ∷ l → ⊥
nil_cons e = let z : ◌≡◌ {A = ℕ} 0 1 = cc in omega arith

abbrev pub row? : Discrete (List ℕ)
row? [] [] = yes refl
row? [] (n ∷ r) = no nil_cons
row? (m ∷ l) [] = no (λ e. nil_cons (sym e))
row? (m ∷ l) (n ∷ r) = go (same? m n) (row? l r)
  where
    go : Dec (m ≡ n) → Dec (l ≡ r) → Dec (m ∷ l ≡ n ∷ r)
    go (yes p) (yes q) = yes (cons_eq p q)
    go (yes p) (no q) = no (λ e. q (tail_eq e))
    go (no p) q = no (λ e. p (head_eq e))

pub fact_eq : {f g : Fact} → f.rel ≡ g.rel → f.row ≡ g.row → f ≡ g
fact_eq p q = λ i. fact (p i) (q i)

abbrev pub fact? : Discrete Fact
fact? f g = go (same? f.rel g.rel) (row? f.row g.row)
  where
    go : Dec (f.rel ≡ g.rel) → Dec (f.row ≡ g.row) → Dec (f ≡ g)
    go (yes p) (yes q) = yes (fact_eq p q)
    go (yes p) (no q) = no (λ e. q (λ i. (e i).row))
    go (no p) q = no (λ e. p (λ i. (e i).rel))

abbrev pub in? : {A : Type 0} → Discrete A → (x : A) (l : List A) → Dec (In x l)
in? eq x [] = no (λ m. m)
in? eq x (y ∷ l) = go (eq x y) (in? eq x l)
  where
    go : Dec (x ≡ y) → Dec (In x l) → Dec ((x ≡ y) ⊎ In x l)
    go (yes e) d = yes (inl e)
    go (no n) (yes m) = yes (inr m)
    go (no n) (no o) = no (⊎_elim n o)

pub first-all : {A : Type 0} (P : A → Type 0) (y : A) (l : List A) → P y → ((x : A) → In x l → P x) → (x : A) → In x (y ∷ l) → P x
first-all P y l p all x (inl e) = subst P (sym e) p
first-all P y l p all x (inr m) = all x m

-- P of every element, or the Q that the first failure brings
abbrev pub all_or : {A Q : Type 0} (P : A → Type 0) (l : List A) → ((x : A) → In x l → P x ⊎ Q) → ((x : A) → In x l → P x) ⊎ Q
all_or P [] each = inl (λ x m. absurd m)
all_or P (y ∷ l) each =
    ⊎_elim (λ p. ⊎_elim (λ all. inl (first-all P y l p all)) (λ q. inr q) (all_or P l (λ x m. each x (inr m)))) (λ q. inr q) (each y (inl refl))

-- ---- facts with one key

-- the key asks nothing of f and g that they break, or they break it
abbrev pub settled_or : (table : Table) (f g : Fact) → (SameKey table f g → f.row ≡ g.row) ⊎ (SameKey table f g × (f.row ≡ g.row → ⊥))
settled_or table f g = go (row? f.row g.row) (same? f.rel g.rel) (less? 0 (relation table f.rel).key)
    (row? (take (relation table f.rel).key f.row) (take (relation table f.rel).key g.row))
  where
    go : Dec (f.row ≡ g.row) → Dec (f.rel ≡ g.rel) → (0 < (relation table f.rel).key) ⊎ ((relation table f.rel).key ≤ 0)
        → Dec (take (relation table f.rel).key f.row ≡ take (relation table f.rel).key g.row)
        → (SameKey table f g → f.row ≡ g.row) ⊎ (SameKey table f g × (f.row ≡ g.row → ⊥))
    go (yes e) a b c = inl (λ k. e)
    go (no e) (no a) b c = inl (λ k. absurd (a k.rel))
    go (no e) (yes a) (inr b) c = inl (λ k. absurd (let l = k.some in omega arith))
    go (no e) (yes a) (inl b) (no c) = inl (λ k. absurd (c k.first))
    go (no e) (yes a) (inl b) (yes c) = inr (record { rel = a; some = b; first = c }, e)

-- ---- the answers of a block

abbrev pub put : ℕ → ℕ → (ℕ → ℕ) → ℕ → ℕ
put x n v y = cond (eqb y x) n (v y)

abbrev valuations : List ℕ → List ℕ → List (ℕ → ℕ)
valuations [] ns = (λ x. 0) ∷ []
valuations (x ∷ xs) ns = gather (λ n. map (put x n) (valuations xs ns)) ns

-- the log's values at the atoms' variables, in every way
abbrev pub candidates : Log → Block → List (ℕ → ℕ)
candidates log b = valuations (once same? (variables b)) (once same? (gather (λ f. f.row) log))

valuation_of : (xs ns : List ℕ) (v : ℕ → ℕ) → ((x : ℕ) → In x xs → In (v x) ns) → (w : ℕ → ℕ) × In w (valuations xs ns) × ((x : ℕ) → In x xs → w x ≡ v x)
valuation_of [] ns v small = ((λ x. 0), inl refl, λ x m. absurd m)
valuation_of (x ∷ xs) ns v small =
    let (w, m, same) = valuation_of xs ns v (λ y i. small y (inr i)) in
    (put x (v x) w, in-gather (λ n. map (put x n) (valuations xs ns)) (v x) _ ns (small x (inl refl)) (in_map (put x (v x)) (valuations xs ns) w m), λ y i. go w same y i (eqb y x) refl)
  where
    go : (w : ℕ → ℕ) → ((y : ℕ) → In y xs → w y ≡ v y) → (y : ℕ) → In y (x ∷ xs) → (b : Bool) → eqb y x ≡ b → cond b (v x) (w y) ≡ v y
    go w same y i true e = ap v (sym (eqb-true y x e))
    go w same y (inl p) false e = absurd (eqb-false y x e p)
    go w same y (inr m) false e = same y m

module _ (log : Log) (b : Block) where
  term-bound : (a : Atom) → In a b.atoms → (t : Term) → In t a.terms → Bound b t
  term-bound a m (con c) i = tt
  term-bound a m (var x) i = in-gather (λ a. gather variable a.terms) a x b.atoms m (in-gather variable (var x) x a.terms i (inl refl))

  pub in-log-values : (v : ℕ → ℕ) → Holds log v b → (x : ℕ) → In x (variables b) → In (v x) (gather (λ f. f.row) log)
  in-log-values v holds x m =
      let (a, i, j) = of_gather (λ a. gather variable a.terms) x b.atoms m in
      let (t, k, l) = of_gather variable x a.terms j in
      in-gather (λ f. f.row) (fact_of v a) (v x) log (holds a i) (go a t l k)
    where
      go : (a : Atom) (t : Term) → In x (variable t) → In t a.terms → In (v x) (row v a.terms)
      go a (con _) x4 k = elim x4 [ ]
      go a (var y) (inr x6) k = elim x6 [ ]
      go a (var y) (inl e) k = subst (λ z. In (v z) (row v a.terms)) (sym e) (in_map (value v) a.terms (var y) k)

  module _ (v w : ℕ → ℕ) (same : (x : ℕ) → In x (variables b) → w x ≡ v x) where
    same-bound : (t : Term) → Bound b t → value w t ≡ value v t
    same-bound (con c) h = refl
    same-bound (var x) h = same x h

  -- to show P of all answers, show it of the candidates' rows
  pub each-answer : Safe b → (P : List ℕ → Type 0) → ((v : ℕ → ℕ) → In v (candidates log b) → Holds log v b → Differ v b → P (row v b.head))
      → (r : List ℕ) → Answer log b r → P r
  each-answer safe P each r a =
      let v = a.val in
      let (w, m, near) = valuation_of (once same? (variables b)) (once same? (gather (λ f. f.row) log)) v
      (λ x i. in-once same? (v x) (gather (λ f. f.row) log) (in-log-values v a.holds x (of_once same? x (variables b) i))) in
      let at : (t : Term) → Bound b t → value w t ≡ value v t = same-bound v w (λ x i. near x (in-once same? x (variables b) i)) in
      subst P (same_row w v b.head (λ t i. at t (safe.head t i)) ∙ a.gives)
      (each w m
      (λ c i. subst (λ l. In (fact c.rel l) log) (sym (same_row w v c.terms (λ t j. at t (term-bound c i t j)))) (a.holds c i))
      (λ d i e. a.differ d i (sym (at d.left (safe.apart d i).0) ∙ e ∙ at d.right (safe.apart d i).1)))

abbrev pub holds? : (log : Log) (v : ℕ → ℕ) (b : Block) → Holds log v b ⊎ (Holds log v b → ⊥)
holds? log v b = all_or (λ a. In (fact_of v a) log) b.atoms (λ a m. go a m (in? fact? (fact_of v a) log))
  where
    go : (a : Atom) → In a b.atoms → Dec (In (fact_of v a) log) → In (fact_of v a) log ⊎ (Holds log v b → ⊥)
    go a m (yes i) = inl i
    go a m (no n) = inr (λ all. n (all a m))

abbrev pub differ? : (v : ℕ → ℕ) (b : Block) → Differ v b ⊎ (Differ v b → ⊥)
differ? v b = all_or (λ d. value v d.left ≡ value v d.right → ⊥) b.apart (λ d m. go d m (same? (value v d.left) (value v d.right)))
  where
    go : (d : Apart) → In d b.apart → Dec (value v d.left ≡ value v d.right) → (value v d.left ≡ value v d.right → ⊥) ⊎ (Differ v b → ⊥)
    go d m (yes e) = inr (λ all. all d m e)
    go d m (no n) = inl n

abbrev pub both_or : {P Q : Type 0} → P ⊎ (P → ⊥) → Q ⊎ (Q → ⊥) → (P × Q) ⊎ ((P × Q) → ⊥)
both_or (inl p) (inl q) = inl (p, q)
both_or (inr n) q = inr (λ z. n z.0)
both_or (inl p) (inr n) = inr (λ z. n z.1)

abbrev pub or_not : {P : Type 0} → Dec P → P ⊎ (P → ⊥)
or_not (yes p) = inl p
or_not (no n) = inr n

-- P of every element, or not
abbrev pub each_or : {A : Type 0} (P : A → Type 0) (l : List A) → ((x : A) → In x l → P x ⊎ (P x → ⊥)) → ((x : A) → In x l → P x) ⊎ (((x : A) → In x l → P x) → ⊥)
each_or P l each = all_or P l (λ x m. ⊎_elim (λ p. inl p) (λ n. inr (λ all. n (all x m))) (each x m))

-- v is a valuation of the block in the log
abbrev Gives : Log → Block → (ℕ → ℕ) → Type 0
Gives log b v = Holds log v b × Differ v b

abbrev gives? : (log : Log) (b : Block) (v : ℕ → ℕ) → Gives log b v ⊎ (Gives log b v → ⊥)
gives? log b v = both_or (holds? log v b) (differ? v b)

-- ---- the least of several rows

-- rows of any lengths, compared column by column; of one length it says no more than ≺ does
abbrev pub ◌≼◌ : List ℕ → List ℕ → Type 0
[] ≼ r = Unit {0}
(m ∷ l) ≼ [] = ⊥
(m ∷ l) ≼ (n ∷ r) = (m < n) ⊎ ((m ≡ n) × (l ≼ r))

infix 20 ◌≼◌
pub same_or_below : (l r : List ℕ) → length l ≡ length r → l ≼ r → (l ≡ r) ⊎ (l ≺ r)
same_or_below [] [] e h = inl refl
same_or_below [] (n ∷ r) e h = absurd (omega arith)
same_or_below (m ∷ l) [] e h = elim h [ ]
same_or_below (m ∷ l) (n ∷ r) e (inl lt) = inr (inl lt)
same_or_below (m ∷ l) (n ∷ r) e (inr (p, h)) = ⊎_elim (λ q. inl (cons_eq p q)) (λ q. inr (inr (p, q))) (same_or_below l r (omega arith) h)

abbrev first-least : (m n : ℕ) (l r : List ℕ) → (l ≼ r) ⊎ (r ≼ l) → ((m ∷ l) ≼ (n ∷ r)) ⊎ ((n ∷ r) ≼ (m ∷ l))
first-least m n l r d = go (same? m n) (less? m n) d
  where
    go : Dec (m ≡ n) → (m < n) ⊎ (n ≤ m) → (l ≼ r) ⊎ (r ≼ l) → ((m ∷ l) ≼ (n ∷ r)) ⊎ ((n ∷ r) ≼ (m ∷ l))
    go (yes e) h (inl p) = inl (inr (e, p))
    go (yes e) h (inr p) = inr (inr (sym e, p))
    go (no d) (inl h) p = inl (inl h)
    go (no d) (inr h) p = inr (inl (omega arith))

abbrev total : (l r : List ℕ) → (l ≼ r) ⊎ (r ≼ l)
total [] r = inl tt
total (m ∷ l) [] = inr tt
total (m ∷ l) (n ∷ r) = first-least m n l r (total l r)

pub least_trans : (a b c : List ℕ) → a ≼ b → b ≼ c → a ≼ c
least_trans [] b c p q = tt
least_trans (k ∷ a) [] c p q = elim p [ ]
least_trans (k ∷ a) (m ∷ b) [] p q = elim q [ ]
least_trans (k ∷ a) (m ∷ b) (n ∷ c) (inl p) (inl q) = inl (omega arith)
least_trans (k ∷ a) (m ∷ b) (n ∷ c) (inl p) (inr (e, q)) = inl (omega arith)
least_trans (k ∷ a) (m ∷ b) (n ∷ c) (inr (e, p)) (inl q) = inl (omega arith)
least_trans (k ∷ a) (m ∷ b) (n ∷ c) (inr (e, p)) (inr (d, q)) = inr (e ∙ d, least_trans a b c p q)

pub least-refl : (a : List ℕ) → a ≼ a
least-refl [] = tt
least-refl (m ∷ a) = inr (refl, least-refl a)

module _ {A : Type 0} (key : A → List ℕ) (P : A → Type 0) where
  abbrev Least : A → List A → Type 0
  Least x l = (y : A) → In y l → P y → key x ≼ key y

  -- of the elements with P, one whose key is least
  abbrev least_or : (l : List A) → ((x : A) → P x ⊎ (P x → ⊥)) → ((x : A) × P x × Least x l) ⊎ ((x : A) → In x l → P x → ⊥)
  least_or [] each = inr (λ x m. absurd m)
  least_or (y ∷ l) each = go (each y) (least_or l each)
    where
      go : P y ⊎ (P y → ⊥) → ((x : A) × P x × Least x l) ⊎ ((x : A) → In x l → P x → ⊥) → ((x : A) × P x × Least x (y ∷ l)) ⊎ ((x : A) → In x (y ∷ l) → P x → ⊥)
      go (inr n) (inr none) = inr (first-all (λ x. P x → ⊥) y l n none)
      go (inr n) (inl (x, p, low)) = inl (x, p, first-all (λ z. P z → key x ≼ key z) y l (λ q. absurd (n q)) low)
      go (inl q) (inr none) = inl (y, q, first-all (λ z. P z → key y ≼ key z) y l (λ r. least-refl (key y)) (λ z m r. absurd (none z m r)))
      go (inl q) (inl (x, p, low)) = ⊎_elim
          (λ h. inl (x, p, first-all (λ z. P z → key x ≼ key z) y l (λ r. h) low))
          (λ h. inl (y, q, first-all (λ z. P z → key y ≼ key z) y l (λ r. least-refl (key y)) (λ z m r. least_trans (key y) (key x) (key z) h (low z m r))))
          (total (key x) (key y))

-- the least of the answers with P
abbrev pub least-answer : (log : Log) (b : Block) → Safe b → (P : List ℕ → Type 0) → ((r : List ℕ) → P r ⊎ (P r → ⊥))
    → ((r : List ℕ) × Answer log b r × P r × ((u : List ℕ) → Answer log b u → P u → r ≼ u)) ⊎ ((r : List ℕ) → Answer log b r → P r → ⊥)
least-answer log b safe P dec =
    ⊎_elim (λ z. inl (
      row z.0 b.head,
      record { val = z.0; holds = z.1.0.0; differ = z.1.0.1; gives = refl },
      z.1.1,
      each-answer log b safe (λ r. P r → row z.0 b.head ≼ r) (λ v m h d p. z.2 v m ((h, d), p)),
    ))
    (λ none. inr (each-answer log b safe (λ r. P r → ⊥) (λ v m h d p. none v m ((h, d), p))))
    (least_or (λ v. row v b.head) (λ v. Gives log b v × P (row v b.head)) (candidates log b) (λ v. both_or (gives? log b v) (dec (row v b.head))))

-- some answer with P
abbrev pub some-answer : (log : Log) (b : Block) → Safe b → (P : List ℕ → Type 0) → ((r : List ℕ) → P r ⊎ (P r → ⊥))
    → ((r : List ℕ) × Answer log b r × P r) ⊎ ((r : List ℕ) → Answer log b r → P r → ⊥)
some-answer log b safe P dec = ⊎_elim (λ z. inl (z.0, z.1, z.2)) (λ n. inr n) (least-answer log b safe P dec)

abbrev pub answer? : (log : Log) (b : Block) → Safe b → (r : List ℕ) → Answer log b r ⊎ (Answer log b r → ⊥)
answer? log b safe r =
    ⊎_elim (λ z. inl (subst (Answer log b) z.2 z.1)) (λ none. inr (λ a. none r a refl)) (some-answer log b safe (λ q. q ≡ r) (λ q. or_not (row? q r)))

-- no answer is outside of the rows, so all are in them
pub inside : (log : Log) (b : Block) (rs : List (List ℕ)) → ((r : List ℕ) → Answer log b r → (In r rs → ⊥) → ⊥) → (r : List ℕ) → Answer log b r → In r rs
inside log b rs none r a = ⊎_elim (λ i. i) (λ n. absurd (none r a n)) (or_not (in? row? r rs))

-- all answers are among the rows, or one is not
abbrev pub inside_or : (log : Log) (b : Block) → Safe b → (rs : List (List ℕ)) → ((r : List ℕ) → Answer log b r → In r rs) ⊎ ((r : List ℕ) × Answer log b r × (In r rs → ⊥))
inside_or log b safe rs = ⊎_elim (λ z. inr z) (λ none. inl (inside log b rs none))
    (some-answer log b safe (λ r. In r rs → ⊥) (λ r. ⊎_elim (λ i. inr (λ n. n i)) (λ n. inl n) (or_not (in? row? r rs))))
