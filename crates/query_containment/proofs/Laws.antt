-- A frozen question thawed: values back to what a valuation says of the variables they stand for. Over lists and functions.
use mathlib.Core.Path.{◌≡◌, sym, ap, ◌∙◌, subst}
use mathlib.Core.Bool.{cond}
use mathlib.Core.List.{List, [], ◌∷◌}
use mathlib.Core.Logic.{⊎_elim}
use Prim.Native.Nat.{ℕ, zero, suc, ◌+◌, ◌-◌, ◌*◌, ◌/◌, ◌<◌, ◌≤◌}
use native.Mathlib.Omega.{arith}
use native.Mathlib.Decide.{dec_lt}
use borrow.Author.Count.{below_more}
use borrow.Author.Tests.{lt-ltb, le-ltb}
use lib.Dec.{ltb}
use lib.ListN.{length, get_or, set, take}
use lib.Seq.{get_or-set_same, get_or-set_other, get_or-take, length-take-le}
use Rattle.query_layout.specs.Layout.{block_head, names}
use Rattle.list_laws.specs.Order.{SameBefore}
use Rattle.query_join.specs.Joins.{value_of, Becomes, AtomMet, head_row, Given}
use Rattle.query_answers.specs.Answers.{column}
use Rattle.query_join.proofs.Laws.{value-variable, value-constant}
use Rattle.query_answers.proofs.Rows.{given-column, head_at}
use Rattle.sheet_format.specs.Limits.{constant_end}
use Rattle.query_meaning.specs.Facts.{value_end}
use Rattle.query_containment.specs.Containment.{frozen_at, BelowFrozen, NoneFrozen, OwnValue, OwnValues, under, atom_under, Fronted, FactPut, AtomsPut, Contained}

-- ---- small numbers

-- no limit of the format reaches the frozen values: a change of the limits moves them
pub term-small : (c : ℕ) → c < constant_end → c + names < frozen_at
term-small c lt = omega arith

pub value-small : (v : ℕ) → v < value_end → v < frozen_at
value-small v lt = omega arith

-- ---- thawing

-- a value that stands for a variable becomes what v says of it
unfoldable pub thaw : (ℕ → ℕ) → ℕ → ℕ
thaw v z = cond (ltb z frozen_at) z (v (z - frozen_at))

pub thaw-small : (v : ℕ → ℕ) (z : ℕ) → z < frozen_at → thaw v z ≡ z
unfolding thaw
thaw-small v z lt = rw (lt-ltb z frozen_at lt)

pub thaw-own : (v : ℕ → ℕ) (x : ℕ) → thaw v (frozen_at + x) ≡ v x
unfolding thaw
thaw-own v x = rw (le-ltb (frozen_at + x) frozen_at (omega arith)) (ap v (let e : frozen_at + x - frozen_at ≡ x = omega arith in e))

-- a term's value, thawed, is its value under the thawed valuation
pub thaw-term : (v u : ℕ → ℕ) (t : ℕ) → t < frozen_at → thaw v (value_of u t) ≡ value_of (λ x. thaw v (u x)) t
thaw-term v u t lt = side (dec_lt t names)
  where
    side : Dec (t < names) → thaw v (value_of u t) ≡ value_of (λ x. thaw v (u x)) t
    side (yes h) = ap (thaw v) (value-variable u t h) ∙ sym (value-variable (λ x. thaw v (u x)) t h)
    side (no h) =
        ap (thaw v) (value-constant u t (omega arith)) ∙ thaw-small v (t - names) (omega arith) ∙ sym (value-constant (λ x. thaw v (u x)) t (omega arith))

-- two valuations that say the same of the variables give a term the same value
pub value_same : (u v : ℕ → ℕ) → ((x : ℕ) → x < names → u x ≡ v x) → (t : ℕ) → value_of u t ≡ value_of v t
value_same u v e t = side (dec_lt t names)
  where
    side : Dec (t < names) → value_of u t ≡ value_of v t
    side (yes h) = value-variable u t h ∙ e t h ∙ sym (value-variable v t h)
    side (no h) = value-constant u t (omega arith) ∙ sym (value-constant v t (omega arith))

-- what a variable became, thawed, is what the valuation says that gives the question a row with the same columns
pub thaw-value : (q : List ℕ) (n : ℕ) (facts row w : List ℕ) (k x y : ℕ) → BelowFrozen row → k ≤ 4 → x < names → OwnValue q row k x y → (g : Given q n facts w) → SameBefore k row w
    → thaw g.val y ≡ g.val x
thaw-value q n facts row w k x y small le lt own g a =
    ⊎_elim (λ e. ap (thaw g.val) e ∙ thaw-own g.val x) (λ o. side o.0 o.1 o.2 o.3) own.is
  where
    side : (p : ℕ) → p < k → get_or q (block_head + p) 0 ≡ x → y ≡ get_or row p 0 → thaw g.val y ≡ g.val x
    side p p-lt e s =
        ap (thaw g.val) s ∙ thaw-small g.val (get_or row p 0) (small.all p) ∙ a.same p p-lt ∙ sym (given-column q n facts w g p (omega arith))
        ∙ ap (value_of g.val) e ∙ value-variable g.val x lt

-- fact i of F, thawed, is fact h of the facts
pub record Thaws (v : ℕ → ℕ) (F facts : List ℕ) (i h : ℕ) : Type 0 where
  pub relation : get_or facts (h * 5) 0 ≡ get_or F (i * 5) 0
  pub columns : (c : ℕ) → c < 4 → get_or facts (h * 5 + 1 + c) 0 ≡ thaw v (get_or F (i * 5 + 1 + c) 0)

abbrev pub AllThaw : (ℕ → ℕ) → List ℕ → List ℕ → Type 0
AllThaw v F facts = (i : ℕ) → i < length F / 5 → (h : ℕ) × (h < length facts / 5) × Thaws v F facts i h

-- what the list is given by F under u it is given by the facts under u thawed
pub thaw-met : (v u : ℕ → ℕ) (l F facts : List ℕ) (j : ℕ) → BelowFrozen l → AllThaw v F facts → AtomMet l F u j → AtomMet l facts (λ x. thaw v (u x)) j
thaw-met v u l F facts j small all m =
    let t = all m.0 m.1 in (
      t.0,
      t.1,
      record {
        relation = t.2.relation ∙ m.2.relation;
        columns = λ c lt.
            t.2.columns c lt ∙ ap (thaw v) (m.2.columns c lt) ∙ thaw-term v u (get_or l (j * 5 + 1 + c) 0) (small.all (j * 5 + 1 + c));
      },
    )

same_row : (l q : List ℕ) (u v : ℕ → ℕ) → ((p : ℕ) → p < 4 → column l u p ≡ column q v p) → head_row u l ≡ head_row v q
same_row l q u v e =
    let a = e 0 (omega arith) in
    let b = e 1 (omega arith) in
    let c = e 2 (omega arith) in
    let d = e 3 (omega arith) in
    λ i. a i ∷ b i ∷ c i ∷ d i ∷ []

-- ---- the facts and the frozen atoms after them

-- the first n atoms of a block, frozen, after the facts
pub record Laid (q vals : List ℕ) (n : ℕ) (facts F : List ℕ) (m : ℕ) : Type 0 where
  pub count : m ≡ length facts / 5
  pub long : length F ≡ (m + n) * 5
  pub front : Fronted (m * 5) facts F
  pub here : (j : ℕ) → j < n → Becomes q F (under vals) j (m + j)

module _ (q l facts row : List ℕ) (n ln k m : ℕ) (vals F : List ℕ) (plain : NoneFrozen q l facts row) (le : k ≤ 4) (own : OwnValues q row k vals) (laid : Laid q vals n facts F m)
    (w : List ℕ) (g : Given q n facts w) (a : SameBefore k row w) where
  -- a term of the question, frozen and thawed
  thaw-question : (i : ℕ) → thaw g.val (value_of (under vals) (get_or q i 0)) ≡ value_of g.val (get_or q i 0)
  thaw-question i =
      thaw-term g.val (under vals) (get_or q i 0) (plain.question.all i)
      ∙ value_same (λ x. thaw g.val (under vals x)) g.val
      (λ x lt. thaw-value q n facts row w k x (get_or vals x 0) plain.seen le lt (own.each x lt) g a) (get_or q i 0)

  all-thaw : AllThaw g.val F facts
  all-thaw i lt = side (dec_lt i m)
    where
      inside : i < m + n
      inside = let e = laid.long in omega arith

      old : i < m → Thaws g.val F facts i i
      old h = record {
        relation = sym (laid.front.same (i * 5) (omega arith));
        columns = λ c c_lt.
            let e = laid.front.same (i * 5 + 1 + c) (omega arith) in
            sym (ap (thaw g.val) e ∙ thaw-small g.val (get_or facts (i * 5 + 1 + c) 0) (plain.given.all (i * 5 + 1 + c)));
      }

      new : (j h : ℕ) → i ≡ m + j → j < n → Becomes q facts g.val j h → Thaws g.val F facts i h
      new j h e j-lt b = subst (λ x. Thaws g.val F facts x h) (sym e) (record {
        relation = b.relation ∙ sym (laid.here j j-lt).relation;
        columns = λ c c_lt.
            b.columns c c_lt ∙ sym (ap (thaw g.val) ((laid.here j j-lt).columns c c_lt) ∙ thaw-question (j * 5 + 1 + c));
      })

      side : Dec (i < m) → (h : ℕ) × (h < length facts / 5) × Thaws g.val F facts i h
      side (yes h) = (i, subst (λ x. i < x) laid.count h, old h)
      side (no h) =
          let j-lt : i - m < n = let z = inside in omega arith in
          let t = g.met (i - m) j-lt in
          (t.0, t.1, new (i - m) t.0 (omega arith) j-lt t.2)

  thawed : Given l ln F (head_row (under vals) q) → Given l ln facts w
  thawed f = record {
    val = λ x. thaw g.val (f.val x);
    met = λ j lt. thaw-met g.val f.val l F facts j plain.list all-thaw (f.met j lt);
    gives = same_row l q (λ x. thaw g.val (f.val x)) g.val same ∙ g.gives;
  }
    where
      same : (p : ℕ) → p < 4 → column l (λ x. thaw g.val (f.val x)) p ≡ column q g.val p
      same p lt =
          sym (thaw-term g.val f.val (get_or l (block_head + p) 0) (plain.list.all (block_head + p)))
          ∙ ap (thaw g.val) (given-column l ln F (head_row (under vals) q) f p lt ∙ head_at q (under vals) p lt)
          ∙ thaw-question (block_head + p)

pub covers : (q l facts row : List ℕ) (n ln k m : ℕ) (vals F : List ℕ) → NoneFrozen q l facts row → k ≤ 4 → OwnValues q row k vals → Laid q vals n facts F m
    → Given l ln F (head_row (under vals) q) → Contained q n l ln facts row k
covers q l facts row n ln k m vals F plain le own laid f = record { gives = λ w g a. thawed q l facts row n ln k m vals F plain le own laid w g a f }

-- ---- putting facts

-- a fact put is what the atom becomes
pub put-becomes : (q vals : List ℕ) (j i : ℕ) (f old new : List ℕ) → f ≡ atom_under q vals j → FactPut f 5 (i * 5) old new → Becomes q new (under vals) j i
put-becomes q vals j i f old new e p = record { relation = at 0 (i * 5) (omega arith) (omega arith); columns = column-at }
  where
    at : (d x : ℕ) → d < 5 → x ≡ i * 5 + d → get_or new x 0 ≡ get_or (atom_under q vals j) d 0
    at d x lt s = ap (λ y. get_or new y 0) s ∙ p.here d lt ∙ ap (λ g. get_or g d 0) e

    term : (x y : ℕ) → x ≡ y → value_of (under vals) (get_or q x 0) ≡ value_of (under vals) (get_or q y 0)
    term x y s = ap (λ z. value_of (under vals) (get_or q z 0)) s

    column-at : (c : ℕ) → c < 4 → get_or new (i * 5 + 1 + c) 0 ≡ value_of (under vals) (get_or q (j * 5 + 1 + c) 0)
    column-at zero lt = at 1 (i * 5 + 1 + 0) (omega arith) (omega arith) ∙ term (j * 5 + 1) (j * 5 + 1 + 0) (omega arith)
    column-at (suc zero) lt = at 2 (i * 5 + 1 + 1) (omega arith) (omega arith) ∙ term (j * 5 + 2) (j * 5 + 1 + 1) (omega arith)
    column-at (suc (suc zero)) lt = at 3 (i * 5 + 1 + 2) (omega arith) (omega arith) ∙ term (j * 5 + 3) (j * 5 + 1 + 2) (omega arith)
    column-at (suc (suc (suc zero))) lt = at 4 (i * 5 + 1 + 3) (omega arith) (omega arith) ∙ term (j * 5 + 4) (j * 5 + 1 + 3) (omega arith)
    column-at (suc (suc (suc (suc c)))) lt = absurd (omega arith)

becomes-front : (q vals : List ℕ) (n j i : ℕ) (old new : List ℕ) → i < n → Fronted (n * 5) old new → Becomes q old (under vals) j i → Becomes q new (under vals) j i
becomes-front q vals n j i old new lt f b = record {
  relation = f.same (i * 5) (omega arith) ∙ b.relation;
  columns = λ c c_lt. f.same (i * 5 + 1 + c) (omega arith) ∙ b.columns c c_lt;
}

pub atoms-more : (q vals : List ℕ) (n m : ℕ) (f old mid new : List ℕ) → AtomsPut q vals n m old mid → f ≡ atom_under q vals n → FactPut f 5 ((m + n) * 5) mid new
    → AtomsPut q vals (n + 1) m old new
atoms-more q vals n m f old mid new a e p = record {
  long = p.long ∙ a.long;
  front = record { same = λ x lt. p.front.same x (omega arith) ∙ a.front.same x lt };
  here = below_more (λ j. Becomes q new (under vals) j (m + j)) n
      (λ j lt. becomes-front q vals (m + n) j (m + j) mid new (omega arith) p.front (a.here j lt))
      (put-becomes q vals n (m + n) f mid new e p);
}

pub laid : (q vals : List ℕ) (n m : ℕ) (facts old new : List ℕ) → m ≡ length facts / 5 → (m + n) * 5 ≤ length new → Fronted (m * 5) facts old → AtomsPut q vals n m old new
    → Laid q vals n facts (take ((m + n) * 5) new) m
laid q vals n m facts old new count fits f a = record {
  count = count;
  long = length-take-le ((m + n) * 5) new fits;
  front = record { same = λ x lt. get_or-take ((m + n) * 5) new x 0 (omega arith) ∙ a.front.same x lt ∙ f.same x lt };
  here = λ j lt. becomes-front q vals (m + n) j (m + j) new (take ((m + n) * 5) new) (omega arith)
      (record { same = λ x x_lt. get_or-take ((m + n) * 5) new x 0 x_lt }) (a.here j lt);
}

-- ---- what the variables become

pub own-more : (q row : List ℕ) (k x y : ℕ) (vals : List ℕ) → x < length vals → ((z : ℕ) → z < x → OwnValue q row k z (get_or vals z 0)) → OwnValue q row k x y
    → (z : ℕ) → z < x + 1 → OwnValue q row k z (get_or (set vals x y) z 0)
own-more q row k x y vals lt f o =
    below_more (λ z. OwnValue q row k z (get_or (set vals x y) z 0)) x
    (λ z z-lt. subst (λ i. OwnValue q row k z i) (sym (get_or-set_other vals x z y 0 (λ e. absurd (omega arith)))) (f z z-lt))
    (subst (λ i. OwnValue q row k x i) (sym (get_or-set_same vals x y 0 lt)) o)
