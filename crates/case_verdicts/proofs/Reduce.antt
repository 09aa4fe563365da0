-- A good state's log is a case, and every case, whatever its values, has a good state's log in it: it is enough to look for good states.
use mathlib.Core.Path.{◌≡◌, refl, sym, ap, ◌∙◌, subst}
use mathlib.Core.List.{List, [], ◌∷◌, map}
use mathlib.Core.Logic.{inl, inr}
use Prim.Native.Nat.{ℕ, zero, suc, ◌+◌, ◌*◌, ◌<◌, ◌/◌, ◌%◌}
use native.Mathlib.Nat.{mul-add-div_right, mul-add-mod_self_right, div-eq_of_lt, mod-eq_of_lt}
use native.Mathlib.Omega.{arith}
use Rattle.sheet_format.specs.Line.{gather}
use Rattle.query_meaning.specs.Meaning.{Term, con, var, Fact, Log, In, value, row, fact, fact_of, Holds, Answer}
use Rattle.query_meaning.specs.Blocks.{View}
use Rattle.query_blocks.proofs.Shape.{from-map}
use Rattle.case_verdicts.specs.Verdict.{Sheet, Agreeing, Case}
use Rattle.case_verdicts.specs.Accepted.{width, FineTerm, Fine, FineSheet}
use Rattle.case_verdicts.specs.Tableau.{Job, listed, jobs, Copy, later, numbered, State, copy, with_parents, tableau_log, head_of, Meets, Good}
use Rattle.case_verdicts.proofs.Laws.{SubLog, monotone, same_row}
use Rattle.case_verdicts.proofs.Tableau.{job-numbered, numbered-job, of_listed, listed_in, Origin, origin, copy_holds, log-parented, job-block, job_is, log-formed}

pub row-con : (v : ℕ → ℕ) (r : List ℕ) → row v (map con r) ≡ r
row-con v [] = refl
row-con v (n ∷ r) = ap (λ l. n ∷ l) (row-con v r)

-- ---- a good state makes a case

module _ (x : Sheet) {top : ℕ} (ok : FineSheet top x) where
  -- the copies give the listed rows
  pub rows-given : (t : State) → ((c : Copy) → In c (numbered (jobs x)) → Meets (copy t c.number) c.job)
      → (w : View) → In w x.views → (r : List ℕ) → In r w.rows → Answer (tableau_log x t) w.block r
  rows-given t meets w m r n =
      let (k, i) = job-numbered (jobs x) _ (listed_in x w r m n) in
      let g = meets _ i in
      record { val = copy t k; holds = copy_holds x t _ i; differ = g.differ; gives = g.gives ∙ row-con (copy t k) r }

  pub good-case : (t : State) → Good x t → Case x (tableau_log x t) (head_of x t)
  good-case t good = record {
    agreeing = record {
      lawful = record { formed = log-formed x ok t; parented = log-parented x t ok.table; keyed = good.keyed };
      agrees = λ w m. record { none_more = good.none_more w m; none_missing = rows-given t good.meets w m };
    };
    asked = record { val = copy t 0; holds = copy_holds x t _ (inl refl); differ = (good.meets _ (inl refl)).differ; gives = refl };
    missing = good.missing;
  }

-- ---- a case has a good state in it

-- v makes the block's atoms facts of the log and its head what it must be
record Serves (log : Log) (v : ℕ → ℕ) (j : Job) : Type 0 where
  holds : Holds log v j.block
  meets : Meets v j

abbrev first : (ℕ → ℕ) → (ℕ → ℕ → ℕ) → ℕ → ℕ → ℕ
first v u zero = v
first v u (suc k) = u k

abbrev slot : (ℕ → ℕ → ℕ) → State
slot u n = u (n / width) (n % width)

slot-copy : (u : ℕ → ℕ → ℕ) (k x : ℕ) → x < width → copy (slot u) k x ≡ u k x
slot-copy u k x h =
    let d : (k * width + x) / width ≡ k = mul-add-div_right (omega arith) k x ∙ ap (λ n. k + n) (div-eq_of_lt h) ∙ omega arith in
    let m : (k * width + x) % width ≡ x = mul-add-mod_self_right k width x ∙ mod-eq_of_lt h in
    λ i. u (d i) (m i)

-- valuations that differ only at numbers that are no variables
module _ (v w : ℕ → ℕ) (same : (x : ℕ) → x < width → v x ≡ w x) where
  same-value : (top : ℕ) (t : Term) → FineTerm top t → value v t ≡ value w t
  same-value top (con c) h = refl
  same-value top (var x) h = same x h

  same-fine : (top : ℕ) (ts : List Term) → Fine top ts → row v ts ≡ row w ts
  same-fine top ts fine = same_row v w ts (λ t m. same-value top t (fine t m))

module _ (log : Log) where
  serves_first : (v : ℕ → ℕ) (u : ℕ → ℕ → ℕ) (j : Job) (js : List Job) → Serves log v j → ((c : Copy) → In c (numbered js) → Serves log (u c.number) c.job)
      → (c : Copy) → In c (numbered (j ∷ js)) → Serves log (first v u c.number) c.job
  serves_first v u j js a rest c (inl e) = subst (λ (d : Copy). Serves log (first v u d.number) d.job) (sym e) a
  serves_first v u j js a rest c (inr m) = let (d, n, e) = from-map later (numbered js) c m in subst (λ (d : Copy). Serves log (first v u d.number) d.job) (sym e) (rest d n)

  choose : (js : List Job) → ((j : Job) → In j js → (v : ℕ → ℕ) × Serves log v j) → (u : ℕ → ℕ → ℕ) × ((c : Copy) → In c (numbered js) → Serves log (u c.number) c.job)
  choose [] all = ((λ k x. 0), λ c m. absurd m)
  choose (j ∷ js) all =
      let (v, a) = all j (inl refl) in
      let (u, rest) = choose js (λ i m. all i (inr m)) in
      (first v u, serves_first v u j js a rest)

-- a good state whose log is part of this one and whose head is the answer
pub record Inside (x : Sheet) (log : Log) (a : List ℕ) : Type 0 where
  pub state : State
  pub good : Good x state
  pub within : SubLog (tableau_log x state) log
  pub head : head_of x state ≡ a

module _ (x : Sheet) {top : ℕ} (ok : FineSheet top x) where
  serves_slots : (log : Log) (v w : ℕ → ℕ) (j : Job) → In j (jobs x) → ((n : ℕ) → n < width → v n ≡ w n) → Serves log v j → Serves log w j
  serves_slots log v w j m same a =
      let b = job-block x ok j m in
      record {
        holds = λ c i. subst (λ r. In (fact c.rel r) log) (same-fine v w same top c.terms (b.atoms c i).terms) (a.holds c i);
        meets = record {
          gives = sym (same-fine v w same top j.block.head b.head) ∙ a.meets.gives ∙ same-fine v w same top j.is (job_is x ok j m);
          differ = λ d i e. a.meets.differ d i (same-value v w same top d.left (b.apart d i).0 ∙ e ∙ sym (same-value v w same top d.right (b.apart d i).1));
        };
      }

  log-within : (t : State) (log : Log) → Agreeing x log → ((c : Copy) → In c (numbered (jobs x)) → Serves log (copy t c.number) c.job) → SubLog (tableau_log x t) log
  log-within t log ag serves = record { at = λ f m. let o = origin x t f m in go f o o.from }
    where
      go : (f : Fact) (o : Origin x t f) → In f (with_parents x.table (fact_of (copy t o.copy_of.number) o.atom)) → In f log
      go f o (inl e) = subst (λ g. In g log) (sym e) ((serves o.copy_of o.copied).holds o.atom o.standing)
      go f o (inr i) = ag.lawful.parented _ ((serves o.copy_of o.copied).holds o.atom o.standing) f i

  pub case-good : (log : Log) (a : List ℕ) → Case x log a → Inside x log a
  case-good log a k =
      let (u, rest) = choose log (gather listed x.views) of_rows in
      let v = k.asked.val in
      let asks : Serves log v (record { block = x.question; is = x.question.head }) =
      record { holds = k.asked.holds; meets = record { gives = refl; differ = k.asked.differ } } in
      let t = slot (first v u) in
      let serves : (c : Copy) → In c (numbered (jobs x)) → Serves log (copy t c.number) c.job =
      λ c m. serves_slots log _ _ c.job (numbered-job (jobs x) c m) (λ n h. sym (slot-copy (first v u) c.number n h)) (serves_first log v u _ (gather listed x.views) asks rest c m) in
      let sub = log-within t log k.agreeing serves in
      let head : head_of x t ≡ a = same-fine _ _ (slot-copy (first v u) 0) top x.question.head ok.question.head ∙ k.asked.gives in
      record {
        state = t;
        good = record {
          meets = λ c m. (serves c m).meets;
          keyed = λ f g m n. k.agreeing.lawful.keyed f g (sub.at f m) (sub.at g n);
          none_more = λ w m r b. (k.agreeing.agrees w m).none_more r (monotone sub b);
          missing = λ l m b. k.missing l m (subst (Answer log l) head (monotone sub b));
        };
        within = sub;
        head = head;
      }
    where
      of_rows : (j : Job) → In j (gather listed x.views) → (v : ℕ → ℕ) × Serves log v j
      of_rows j m =
          let (w, r, n, i, e) = of_listed x j m in
          let b = (k.agreeing.agrees w n).none_missing r i in
          (b.val, subst (Serves log b.val) (sym e) (record { holds = b.holds; meets = record { gives = b.gives ∙ sym (row-con b.val r); differ = b.differ } }))
