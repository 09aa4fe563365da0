-- Values and copies of a sheet exchanged: what was good stays good.
use mathlib.Core.Path.{◌≡◌, refl, sym, ap, ◌∙◌, subst}
use mathlib.Core.List.{List, [], ◌∷◌, map}
use mathlib.Core.Logic.{inl, inr}
use Prim.Native.Nat.{ℕ, zero, suc, ◌+◌, ◌*◌, ◌<◌}
use native.Mathlib.Omega.{arith}
use lib.ListN.{take}
use Rattle.query_meaning.specs.Meaning.{Term, con, var, Fact, fact, Atom, Block, In, row, fact_of, Answer}
use Rattle.query_meaning.specs.Blocks.{View}
use Rattle.case_verdicts.specs.Table.{Table, relation, parents, owed, SameKey}
use Rattle.case_verdicts.specs.Verdict.{Sheet}
use Rattle.case_verdicts.specs.Accepted.{width, Fine, FineSheet}
use Rattle.case_verdicts.specs.Tableau.{Copy, State, jobs, numbered, copy, tableau_log, with_parents, head_of, Meets, Good}
use Rattle.case_verdicts.proofs.Tableau.{origin, in-log, of_parents, copy-block}

-- no constant of the terms is changed
abbrev pub Still : (ℕ → ℕ) → List Term → Type 0
Still turn ts = (c : ℕ) → In (con c) ts → turn c ≡ c

-- none of the block's
pub record StillBlock (turn : ℕ → ℕ) (b : Block) : Type 0 where
  pub head : Still turn b.head
  pub atoms : (a : Atom) → In a b.atoms → Still turn a.terms
  pub plain : b.apart ≡ []

-- a copy becomes another one, of the same block, and what its head must be is exchanged
pub record Turns (y : Sheet) (turn to : ℕ → ℕ) (c : Copy) : Type 0 where
  pub other : Copy
  pub copied : In other (numbered (jobs y))
  pub number : other.number ≡ to c.number
  pub block : other.job.block ≡ c.job.block
  pub is : (v w : ℕ → ℕ) → ((x : ℕ) → x < width → w x ≡ turn (v x)) → row w c.job.is ≡ map turn (row v other.job.is)

-- exchanging values changes the sheet in nothing but the order of its copies
pub record Symmetric (y : Sheet) (turn to : ℕ → ℕ) : Type 0 where
  pub twice : (v : ℕ) → turn (turn v) ≡ v
  pub first : to 0 ≡ 0
  pub question : StillBlock turn y.question
  pub lists : (l : Block) → In l y.lists → StillBlock turn l
  pub views : (w : View) → In w y.views → StillBlock turn w.block
  pub copies : (c : Copy) → In c (numbered (jobs y)) → StillBlock turn c.job.block × Turns y turn to c
  pub rows : (w : View) → In w y.views → (r : List ℕ) → In r w.rows → In (map turn r) w.rows

-- ---- rows

pub row-turned : (turn v w : ℕ → ℕ) (ts : List Term) → ((x : ℕ) → In (var x) ts → w x ≡ turn (v x)) → Still turn ts → row w ts ≡ map turn (row v ts)
row-turned turn v w [] same still = refl
row-turned turn v w (con c ∷ ts) same still = ap (λ z. z ∷ row w ts) (sym (still c (inl refl))) ∙ ap (λ l. turn c ∷ l) (row-turned turn v w ts (λ x m. same x (inr m)) (λ d m. still d (inr m)))
row-turned turn v w (var x ∷ ts) same still = ap (λ z. z ∷ row w ts) (same x (inl refl)) ∙ ap (λ l. turn (v x) ∷ l) (row-turned turn v w ts (λ z m. same z (inr m)) (λ d m. still d (inr m)))

pub map-twice : (turn : ℕ → ℕ) → ((v : ℕ) → turn (turn v) ≡ v) → (l : List ℕ) → map turn (map turn l) ≡ l
map-twice turn twice [] = refl
map-twice turn twice (v ∷ l) = ap (λ z. z ∷ map turn (map turn l)) (twice v) ∙ ap (λ m. v ∷ m) (map-twice turn twice l)

take-map : (turn : ℕ → ℕ) (n : ℕ) (l : List ℕ) → take n (map turn l) ≡ map turn (take n l)
take-map turn zero l = refl
take-map turn (suc n) [] = refl
take-map turn (suc n) (v ∷ l) = ap (λ m. turn v ∷ m) (take-map turn n l)

-- ---- facts

abbrev turned : (ℕ → ℕ) → Fact → Fact
turned turn f = fact f.rel (map turn f.row)

in-owed : (n : ℕ) (r : List ℕ) → 0 < n → In (fact n r) (owed n r)
in-owed zero r lt = absurd (omega arith)
in-owed (suc n) r lt = inl refl

turned_with_parents : (table : Table) (turn : ℕ → ℕ) (f g : Fact) → In f (with_parents table g) → In (turned turn f) (with_parents table (turned turn g))
turned_with_parents table turn f g (inl e) = inl (ap (turned turn) e)
turned_with_parents table turn f g (inr m) =
    let (some, e) = of_parents table g f m in
    inr (subst (λ h. In (turned turn h) (parents table (turned turn g))) (sym e) (in-owed (relation table g.rel).parent (map turn g.row) some))

module _ (y : Sheet) {top : ℕ} (ok : FineSheet top y) (turn to : ℕ → ℕ) (sym-is : Symmetric y turn to)
    (t u : State) (turns : (k x : ℕ) → x < width → u (k * width + x) ≡ turn (t (to k * width + x))) where
  fine-variable : (ts : List Term) → Fine top ts → (x : ℕ) → In (var x) ts → x < width
  fine-variable ts fine x m = fine (var x) m

  -- a copy's terms
  copy-row : (k : ℕ) (ts : List Term) → Fine top ts → Still turn ts → row (copy u k) ts ≡ map turn (row (copy t (to k)) ts)
  copy-row k ts fine still = row-turned turn (copy t (to k)) (copy u k) ts (λ x m. turns k x (fine-variable ts fine x m)) still

  -- a fact of the one log, exchanged, is one of the other
  log-turned : (f : Fact) → In f (tableau_log y u) → In (turned turn f) (tableau_log y t)
  log-turned f m =
      let o = origin y u f m in
      let c = o.copy_of in
      let (still, k) = sym-is.copies c o.copied in
      let a = o.atom in
      let fine = ((copy-block y ok c o.copied).atoms a o.standing).terms in
      let e : row (copy u c.number) a.terms ≡ map turn (row (copy t (to c.number)) a.terms) = copy-row c.number a.terms fine (still.atoms a o.standing) in
      let g : turned turn (fact_of (copy u c.number) a) ≡ fact_of (copy t k.other.number) a
      = ap (λ r. fact a.rel (map turn r)) e ∙ ap (fact a.rel) (map-twice turn sym-is.twice (row (copy t (to c.number)) a.terms)) ∙ ap (λ n. fact_of (copy t n) a) (sym k.number) in
      in-log y t (turned turn f) (record {
        copy_of = k.other;
        copied = k.copied;
        atom = a;
        standing = subst (λ (b : Block). In a b.atoms) (sym k.block) o.standing;
        from = subst (λ h. In (turned turn f) (with_parents y.table h)) g (turned_with_parents y.table turn f (fact_of (copy u c.number) a) o.from);
      })

  -- so is an answer
  answer-turned : (b : Block) → StillBlock turn b → (r : List ℕ) → Answer (tableau_log y u) b r → Answer (tableau_log y t) b (map turn r)
  answer-turned b still r a = record {
    val = λ x. turn (a.val x);
    holds = λ q m. subst (λ l. In (fact q.rel l) (tableau_log y t)) (sym (row-turned turn a.val (λ x. turn (a.val x)) q.terms (λ x n. refl) (still.atoms q m))) (log-turned (fact_of a.val q) (a.holds q m));
    differ = λ d m. absurd (subst (λ l. In d l) still.plain m);
    gives = row-turned turn a.val (λ x. turn (a.val x)) b.head (λ x n. refl) still.head ∙ ap (map turn) a.gives;
  }

  head-turned : head_of y u ≡ map turn (head_of y t)
  head-turned = copy-row 0 y.question.head ok.question.head sym-is.question.head ∙ ap (λ k. map turn (row (copy t k) y.question.head)) sym-is.first

  meets-turned : Good y t → (c : Copy) → In c (numbered (jobs y)) → Meets (copy u c.number) c.job
  meets-turned good c m =
      let (still, k) = sym-is.copies c m in
      let b = copy-block y ok c m in
      let there = good.meets k.other k.copied in
      let v = copy t k.other.number in
      let e : row (copy u c.number) c.job.block.head ≡ map turn (row v c.job.block.head) = copy-row c.number c.job.block.head b.head still.head ∙ ap (λ n. map turn (row (copy t n) c.job.block.head)) (sym k.number) in
      let q : row v c.job.block.head ≡ row v k.other.job.is = ap (λ (z : Block). row v z.head) (sym k.block) ∙ there.gives in
      let w : row (copy u c.number) c.job.is ≡ map turn (row v k.other.job.is) = k.is v (copy u c.number) (λ x lt. turns c.number x lt ∙ ap (λ n. turn (copy t n x)) (sym k.number)) in
      record { gives = e ∙ ap (map turn) q ∙ sym w; differ = λ d i. absurd (subst (λ l. In d l) still.plain i) }

  keyed-turned : Good y t → (f g : Fact) → In f (tableau_log y u) → In g (tableau_log y u) → SameKey y.table f g → f.row ≡ g.row
  keyed-turned good f g m n s =
      let key = (relation y.table f.rel).key in
      let e = good.keyed (turned turn f) (turned turn g) (log-turned f m) (log-turned g n) (record { rel = s.rel; some = s.some; first = take-map turn key f.row ∙ ap (map turn) s.first ∙ sym (take-map turn key g.row) }) in
      sym (map-twice turn sym-is.twice f.row) ∙ ap (map turn) e ∙ map-twice turn sym-is.twice g.row

  pub good-turned : Good y t → Good y u
  good-turned good = record {
    meets = meets-turned good;
    keyed = keyed-turned good;
    none_more = λ w m r a. subst (λ l. In l w.rows) (map-twice turn sym-is.twice r) (sym-is.rows w m (map turn r) (good.none_more w m (map turn r) (answer-turned w.block (sym-is.views w m) r a)));
    missing = λ l m a. good.missing l m (subst (Answer (tableau_log y t) l) (ap (map turn) head-turned ∙ map-twice turn sym-is.twice (head_of y t)) (answer-turned l (sym-is.lists l m) (head_of y u) a));
  }
