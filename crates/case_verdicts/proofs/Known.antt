-- The values that a search makes equal are constants of the sheet, or stand in slots of its copies.
use mathlib.Core.Path.{◌≡◌, refl, sym, ap, ◌∙◌, subst}
use mathlib.Core.List.{List, [], ◌∷◌, map, ◌++◌}
use mathlib.Core.Logic.{inl, inr, ⊎_elim}
use Prim.Native.Nat.{ℕ, zero, suc, ◌+◌, ◌*◌, ◌<◌}
use native.Mathlib.Nat.{mul-le-mul_right, suc-mul}
use native.Mathlib.Omega.{arith}
use lib.ListN.{length, length-map}
use Rattle.query_meaning.specs.Meaning.{Term, con, var, Fact, Block, In, value, row, Holds, Differ}
use Rattle.query_meaning.specs.Blocks.{View}
use Rattle.query_blocks.proofs.Shape.{in_map, from-map}
use Rattle.case_verdicts.specs.Table.{relation}
use Rattle.case_verdicts.specs.Verdict.{Sheet}
use Rattle.case_verdicts.specs.Handed.{BlockOf, TermOf, Stands, in_block, in_row}
use Rattle.case_verdicts.specs.Accepted.{width, FineTerm, FineBlock, FineSheet, Bound, Safe}
use Rattle.case_verdicts.specs.Tableau.{Job, jobs, Copy, later, numbered, State, copy, tableau_log}
use Rattle.case_verdicts.specs.Search.{Equation, ◌≈◌, equations, lines}
use Rattle.case_verdicts.proofs.Lists.{of_gather, in-cases}
use Rattle.case_verdicts.proofs.Decide.{same?, in-log-values}
use Rattle.case_verdicts.proofs.Tableau.{source, numbered-job, of_listed, copy-block, job_is, log-formed}
use Rattle.case_verdicts.proofs.Measure.{Known, Open, open_rows}

-- ---- slots

abbrev pub upto : ℕ → List ℕ
upto zero = []
upto (suc n) = n ∷ upto n

in-upto : (n k : ℕ) → k < n → In k (upto n)
in-upto zero k h = absurd (omega arith)
in-upto (suc n) k h = go (same? k n) (λ l. in-upto n k l)
  where
    go : Dec (k ≡ n) → (k < n → In k (upto n)) → In k (n ∷ upto n)
    go (yes e) rec = inl e
    go (no d) rec = inr (rec (omega arith))

pub of_upto : (n k : ℕ) → In k (upto n) → k < n
of_upto zero k x' = elim x' [ ]
of_upto (suc n) k (inl e) = omega arith
of_upto (suc n) k (inr m) = let h = of_upto n k m in omega arith

-- as many as the copies have
abbrev pub slots : Sheet → List ℕ
slots x = upto (length (jobs x) * width)

number-below : (js : List Job) (c : Copy) → In c (numbered js) → c.number < length js
number-below [] c x' = elim x' [ ]
number-below (j ∷ js) c (inl e) = subst (λ (d : Copy). d.number < suc (length js)) (sym e) (omega arith)
number-below (j ∷ js) c (inr m) =
    let (d, n, e) = from-map later (numbered js) c m in
    let h = number-below js d n in
    subst (λ (d : Copy). d.number < suc (length js)) (sym e) (omega arith)

-- ---- terms and constants

abbrev TermStands : Sheet → Term → Type 0
TermStands x (con n) = Stands x n
TermStands x (var y) = Unit {0}

term-stands : (x : Sheet) (b : Block) → BlockOf x b → (u : Term) → TermOf b u → TermStands x u
term-stands x b m (con n) i = in_block b m i
term-stands x b m (var y) i = tt

module _ (x : Sheet) {top : ℕ} (ok : FineSheet top x) where
  block-fine : (b : Block) → BlockOf x b → FineBlock top x.table b
  block-fine b (inl e) = subst (FineBlock top x.table) (sym e) ok.question
  block-fine b (inr (inl m)) = ok.lists b m
  block-fine b (inr (inr (w, m, e))) = subst (FineBlock top x.table) (sym e) (ok.views w m)

  term-fine : (b : Block) → FineBlock top x.table b → (u : Term) → TermOf b u → FineTerm top u
  term-fine b f u (inl m) = f.head u m
  term-fine b f u (inr (inl (a, m, i))) = (f.atoms a m).terms u i
  term-fine b f u (inr (inr (d, m, inl e))) = subst (FineTerm top) (sym e) (f.apart d m).0
  term-fine b f u (inr (inr (d, m, inr e))) = subst (FineTerm top) (sym e) (f.apart d m).1

  pub stands-small : (n : ℕ) → Stands x n → n < top
  stands-small n (in_block b m i) = term-fine b (block-fine b m) (con n) i
  stands-small n (in_row w m r i j) = ok.rows w m r i n j

  job_of : (j : Job) → In j (jobs x) → BlockOf x j.block
  job_of j (inl e) = inl (λ i. (e i).block)
  job_of j (inr m) = let (w, r, n, k, e) = of_listed x j m in inr (inr (w, n, λ i. (e i).block))

  is-stands : (j : Job) → In j (jobs x) → (u : Term) → In u j.is → TermStands x u
  is-stands j (inl e) u i = term-stands x x.question (inl refl) u (inl (subst (λ (k : Job). In u k.is) e i))
  is-stands j (inr m) u i =
      let (w, r, n, k, e) = of_listed x j m in
      let (c, q, p) = from-map con r u (subst (λ (k : Job). In u k.is) e i) in
      subst (TermStands x) (sym p) (in_row w n r k q)

-- ---- values

module _ (x : Sheet) {top : ℕ} (ok : FineSheet top x) (s : State) where
  abbrev Has : ℕ → Type 0
  Has = Known (Stands x) (slots x) s

  known-term : (c : Copy) → In c (numbered (jobs x)) → (u : Term) → FineTerm top u → TermStands x u → Has (value (copy s c.number) u)
  known-term c m (con n) f k = inl k
  known-term c m (var y) f k =
      let l = mul-le-mul_right width (number-below (jobs x) c m) in
      let e = suc-mul c.number width in
      inr (in_map s (slots x) (c.number * width + y) (in-upto (length (jobs x) * width) (c.number * width + y) (omega arith)))

  known-row : (c : Copy) → In c (numbered (jobs x)) → (ts : List Term) → ((u : Term) → In u ts → FineTerm top u × TermStands x u) → (n : ℕ) → In n (row (copy s c.number) ts) → Has n
  known-row c m ts fine n i =
      let (u, j, e) = from-map (value (copy s c.number)) ts n i in
      let (f, k) = fine u j in
      subst Has (sym e) (known-term c m u f k)

  pub known-log : (f : Fact) → In f (tableau_log x s) → (n : ℕ) → In n f.row → Has n
  known-log f m n i =
      let o = source x s f m n i in
      let c = o.copy_of in
      let t : TermOf c.job.block o.term = inr (inl (o.atom, o.standing, o.written)) in
      subst Has (sym o.same) (known-term c o.copied o.term (term-fine x ok c.job.block (copy-block x ok c o.copied) o.term t)
      (term-stands x c.job.block (job_of x ok c.job (numbered-job (jobs x) c o.copied)) o.term t))

  known-bound : (b : Block) → BlockOf x b → (v : ℕ → ℕ) → Holds (tableau_log x s) v b → (u : Term) → TermOf b u → Bound b u → Has (value v u)
  known-bound b m v h (con n) i d = inl (in_block b m i)
  known-bound b m v h (var y) i d =
      let (g, n, j) = of_gather (λ f. f.row) (v y) (tableau_log x s) (in-log-values (tableau_log x s) b v h y d) in
      known-log g n (v y) j

  -- ---- each alternative changes something

  abbrev Opens : List Equation → Type 0
  Opens = Open (Stands x) (slots x) s

  pub copy_open : (c : Copy) → In c (numbered (jobs x)) → (row (copy s c.number) c.job.block.head ≡ row (copy s c.number) c.job.is → ⊥)
      → Open (Stands x) (slots x) s (equations (row (copy s c.number) c.job.block.head) (row (copy s c.number) c.job.is))
  copy_open c m ne =
      let v = copy s c.number in
      let j = numbered-job (jobs x) c m in
      let a = length-map c.job.block.head (value v) in
      let b = length-map c.job.is (value v) in
      let l = one-length c.job j in
      open_rows (Stands x) (slots x) s (row v c.job.block.head) (row v c.job.is) (omega arith) ne
      (known-row c m c.job.block.head (λ u i. ((copy-block x ok c m).head u i, term-stands x c.job.block (job_of x ok c.job j) u (inl i))))
      (known-row c m c.job.is (λ u i. (job_is x ok c.job j u i, is-stands x ok c.job j u i)))
    where
      one-length : (j : Job) → In j (jobs x) → length j.block.head ≡ length j.is
      one-length j (inl e) = subst (λ (k : Job). length k.block.head ≡ length k.is) (sym e) refl
      one-length j (inr m) =
          let (w, r, n, k, e) = of_listed x j m in
          subst (λ (k : Job). length k.block.head ≡ length k.is) (sym e) (sym (ok.lengths w n r k) ∙ sym (length-map r con))

  pub key_open : (f g : Fact) → In f (tableau_log x s) → In g (tableau_log x s) → f.rel ≡ g.rel → (f.row ≡ g.row → ⊥) → Open (Stands x) (slots x) s (equations f.row g.row)
  key_open f g m n e ne = open_rows (Stands x) (slots x) s f.row g.row
      ((log-formed x ok s f m).full ∙ ap (λ k. (relation x.table k).columns) e ∙ sym (log-formed x ok s g n).full) ne (known-log f m) (known-log g n)

  pub lines_open : (b : Block) → BlockOf x b → Safe b → (v : ℕ → ℕ) → Holds (tableau_log x s) v b → Differ v b
      → (alt : List Equation) → In alt (lines v b) → Open (Stands x) (slots x) s alt
  lines_open b of safe v h differ alt i =
      let (d, m, e) = from-map (λ d. (value v d.left ≈ value v d.right) ∷ []) b.apart alt i in
      let left = known-bound b of v h d.left (inr (inr (d, m, inl refl))) (safe.apart d m).0 in
      let right = known-bound b of v h d.right (inr (inr (d, m, inr refl))) (safe.apart d m).1 in
      subst Opens (sym e) (record {
        known = λ f. ⊎_elim (λ p. (subst (λ (z : Equation). Has z.left) (sym p) left, subst (λ (z : Equation). Has z.right) (sym p) right)) absurd;
        unmet = ((value v d.left ≈ value v d.right), inl refl, differ d m);
      })

  pub view_open : (w : View) → In w x.views → Safe w.block → (v : ℕ → ℕ) → Holds (tableau_log x s) v w.block → Differ v w.block → (In (row v w.block.head) w.rows → ⊥)
      → (alt : List Equation) → In alt (map (equations (row v w.block.head)) w.rows ++ lines v w.block) → Open (Stands x) (slots x) s alt
  view_open w m safe v h differ stray alt i = ⊎_elim listed (lines_open w.block (inr (inr (w, m, refl))) safe v h differ alt)
      (in-cases alt (map (equations (row v w.block.head)) w.rows) (lines v w.block) i)
    where
      listed : In alt (map (equations (row v w.block.head)) w.rows) → Open (Stands x) (slots x) s alt
      listed j =
          let (r, k, e) = from-map (equations (row v w.block.head)) w.rows alt j in
          subst Opens (sym e) (open_rows (Stands x) (slots x) s (row v w.block.head) r
          (length-map w.block.head (value v) ∙ sym (ok.lengths w m r k)) (λ p. stray (subst (λ z. In z w.rows) (sym p) k))
          (λ n q. let (u, l, p) = from-map (value v) w.block.head n q in
          subst Has (sym p) (known-bound w.block (inr (inr (w, m, refl))) v h u (inl l) (safe.head u l)))
          (λ n q. inl (in_row w m r k q)))
