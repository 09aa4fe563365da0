-- Which values an answer has, and what follows where two searches make up different ones: an answer with a value that only the first search made up
-- is none of the other log's.
use mathlib.Core.Path.{◌≡◌, refl, sym, subst}
use mathlib.Core.List.{List, [], ◌∷◌}
use mathlib.Core.Logic.{◌⊎◌, inl, inr, ⊎_elim}
use Prim.Native.Nat.{ℕ, ◌<◌, ◌≤◌}
use native.Mathlib.Omega.{arith}
use Rattle.sheet_format.specs.Line.{gather}
use Rattle.query_meaning.specs.Meaning.{Term, con, var, Fact, Log, Atom, Block, In, value, row, fact_of, Answer}
use Rattle.case_verdicts.specs.Table.{Table}
use Rattle.case_verdicts.specs.Verdict.{Sheet, Agreeing, Case}
use Rattle.case_verdicts.specs.Accepted.{FineTerm, FineBlock, FineSheet, variable, Bound, Safe}
use Rattle.case_verdicts.proofs.Lists.{of_gather}
use Rattle.case_settled.specs.Settled.{ToldApart}
use Rattle.case_settled.specs.Searches.{beyond_rows}
use Rattle.case_settled.proofs.Settlement.{apart-beyond}

-- n is a value of a fact of the log
abbrev pub ValueIn : Log → ℕ → Type 0
ValueIn log n = (f : Fact) × In f log × In n f.row

-- an element of a row is the value of one of its terms, and the other way round
of_row : (v : ℕ → ℕ) (ts : List Term) (n : ℕ) → In n (row v ts) → (t : Term) × In t ts × (n ≡ value v t)
of_row v [] n m = absurd m
of_row v (t ∷ ts) n m = ⊎_elim (λ e. (t, inl refl, e)) (λ i. let (u, j, e) = of_row v ts n i in (u, inr j, e)) m

in-row-of : (v : ℕ → ℕ) (ts : List Term) (t : Term) → In t ts → In (value v t) (row v ts)
in-row-of v [] t m = absurd m
in-row-of v (u ∷ ts) t m = ⊎_elim (λ e. inl (λ i. value v (e i))) (λ i. inr (in-row-of v ts t i)) m

-- the variable of a term that has just this one
its_variable : (x : ℕ) (t : Term) → In x (variable t) → t ≡ var x
its_variable x (con c) m = absurd m
its_variable x (var y) m = ⊎_elim (λ e. λ i. var (sym e i)) (λ n. absurd n) m

module _ (log : Log) (b : Block) (v : ℕ → ℕ) (holds : (a : Atom) → In a b.atoms → In (fact_of v a) log) where
  bound-value : (top : ℕ) (t : Term) → FineTerm top t → Bound b t → (value v t < top) ⊎ ValueIn log (value v t)
  bound-value top (con c) fine k = inl fine
  bound-value top (var x) fine k =
      let (a, m, i) = of_gather (λ (a : Atom). gather variable a.terms) x b.atoms k in
      let (t, j, h) = of_gather variable x a.terms i in
      inr (fact_of v a, holds a m, in-row-of v a.terms (var x) (subst (λ z. In z a.terms) (its_variable x t h) j))

-- a value of an answer is a constant of the block or a value of the log
pub answer-value : {top : ℕ} {table : Table} (log : Log) (b : Block) → FineBlock top table b → Safe b → (r : List ℕ) → Answer log b r → (n : ℕ) → In n r → (n < top) ⊎ ValueIn log n
answer-value {top} log b fine safe r a n m =
    let (t, i, e) = of_row a.val b.head n (subst (In n) (sym a.gives) m) in
    subst (λ z. (z < top) ⊎ ValueIn log z) (sym e) (bound-value log b a.val a.holds top t (fine.head t i) (safe.head t i))

-- the second log's values are constants or from `mid` on, the answer's lie below; so if the second gives it, it has constants alone
pub constants-alone : {top : ℕ} (mid : ℕ) (x : Sheet) → FineSheet top x → Safe x.question → (second : Log) → ((n : ℕ) → ValueIn second n → (n < top) ⊎ (mid ≤ n))
    → (r : List ℕ) → ((n : ℕ) → In n r → n < mid) → Answer second x.question r → (n : ℕ) → In n r → n < top
constants-alone mid x ok safe second apart r low a n m =
    let l = low n m in
    ⊎_elim (λ h. h) (λ i. ⊎_elim (λ h. h) (λ h. absurd (omega arith)) (apart n i)) (answer-value second x.question ok.question safe r a n m)

-- so a log with an answer below `mid` beyond all of the second's that have constants alone is told apart from it
pub apart-by-values : {top : ℕ} (mid : ℕ) (x : Sheet) → FineSheet top x → Safe x.question → (rs : List (List ℕ)) {first second : Log} {r : List ℕ} → Agreeing x second
    → ((n : ℕ) → ValueIn second n → (n < top) ⊎ (mid ≤ n)) → ((q : List ℕ) → Answer second x.question q → ((n : ℕ) → In n q → n < top) → In q rs)
    → Case (beyond_rows x rs) first r → ((n : ℕ) → In n r → n < mid) → ToldApart x first second r
apart-by-values mid x ok safe rs {first} {second} {r} b apart known c low = apart-beyond x rs b c (λ q. known r q (constants-alone mid x ok safe second apart r low q))

-- ---- a sheet is as fine under a higher top: values made up by one search are constants of the next

module _ (top higher : ℕ) (h : top ≤ higher) where
  term_up : (t : Term) → FineTerm top t → FineTerm higher t
  term_up (con c) f = omega arith
  term_up (var x) f = f

  block_up : (table : Table) (b : Block) → FineBlock top table b → FineBlock higher table b
  block_up table b f = record {
    head = λ t m. term_up t (f.head t m);
    atoms = λ a m. record { terms = λ t i. term_up t ((f.atoms a m).terms t i); known = (f.atoms a m).known; full = (f.atoms a m).full };
    apart = λ d m. (term_up d.left (f.apart d m).0, term_up d.right (f.apart d m).1);
  }

  pub fine_up : {x : Sheet} → FineSheet top x → FineSheet higher x
  fine_up {x} ok = record {
    table = ok.table;
    question = block_up x.table x.question ok.question;
    lists = λ l m. block_up x.table l (ok.lists l m);
    views = λ w m. block_up x.table w.block (ok.views w m);
    rows = λ w m r i n j. let l = ok.rows w m r i n j in omega arith;
    lengths = ok.lengths;
  }
