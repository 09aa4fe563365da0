-- Dropping facts from a case, one after the other, ends with no fact to spare; and then there are no more facts than the size of the sheet.
use mathlib.Core.Path.{◌≡◌, refl, ap, ◌∙◌, subst}
use mathlib.Core.List.{List, [], ◌∷◌}
use mathlib.Core.Logic.{◌⊎◌, inl, inr, ⊎_elim}
use Prim.Native.Nat.{ℕ, zero, suc, ◌+◌, ◌*◌, ◌<◌, ◌≤◌}
use native.Mathlib.Omega.{arith}
use lib.ListN.{length, length-append, length-map}
use Rattle.sheet_format.specs.Line.{gather}
use Rattle.query_meaning.specs.Meaning.{Fact, Log, In, fact_of, Answer}
use Rattle.query_meaning.specs.Blocks.{View}
use Rattle.case_verdicts.specs.Table.{Table, relation, owed, parents}
use Rattle.case_verdicts.specs.Verdict.{Sheet, Case}
use Rattle.case_verdicts.specs.Handed.{Dropped, SpareFree, Distinct, row_atoms, size}
use Rattle.case_verdicts.specs.Accepted.{FineSheet}
use Rattle.case_verdicts.specs.Tableau.{Job, listed, jobs, later, numbered, State, copy, copy_facts, with_parents, facts, tableau_log}
use Rattle.case_verdicts.proofs.Lists.{total, total-same, total-each, total_append, total-map, gather-length}
use Rattle.case_verdicts.proofs.Laws.{SubLog, monotone}
use Rattle.case_verdicts.proofs.Distinct.{taken_out, of_without, in_without, without_fewer, without-distinct, at_most, in-or}
use Rattle.case_verdicts.proofs.Decide.{fact?}
use Rattle.case_verdicts.proofs.Tableau.{log-parented, no_grandparent}
use Rattle.case_verdicts.proofs.Reduce.{good-case, Inside, case-good}

-- ---- parts of a case

-- the log has the rows that its facts owe
pub record Parented (x : Sheet) (log : Log) : Type 0 where
  pub at : (f : Fact) → In f log → (g : Fact) → In g (parents x.table f) → In g log

-- a part is a case too if it still gives the listed rows and the answer, and owes nothing: with fewer facts no view gives more, and no list
pub part-case : (x : Sheet) (log rest : Log) (a : List ℕ) → Case x log a → SubLog rest log → Parented x rest
    → ((w : View) → In w x.views → (r : List ℕ) → In r w.rows → Answer rest w.block r) → Answer rest x.question a → Case x rest a
part-case x log rest a k high parented given asked = record {
  agreeing = record {
    lawful = record {
      formed = λ f m. k.agreeing.lawful.formed f (high.at f m);
      parented = parented.at;
      keyed = λ f g m n. k.agreeing.lawful.keyed f g (high.at f m) (high.at g n);
    };
    agrees = λ w m. record { none_more = λ r b. (k.agreeing.agrees w m).none_more r (monotone high b); none_missing = given w m };
  };
  asked = asked;
  missing = λ l m b. k.missing l m (monotone high b);
}

-- these facts give the listed rows and the answer
pub record Enough (x : Sheet) (facts : Log) (a : List ℕ) : Type 0 where
  pub given : (w : View) → In w x.views → (r : List ℕ) → In r w.rows → Answer facts w.block r
  pub asked : Answer facts x.question a

-- so it is with all that lies between a case and facts of it that are enough
between : (x : Sheet) (log rest small : Log) (a : List ℕ) → Case x log a → Enough x small a → SubLog small rest → SubLog rest log → Parented x rest → Case x rest a
between x log rest small a k e low high parented =
    part-case x log rest a k high parented (λ w m r n. monotone low (e.given w m r n)) (monotone low e.asked)

-- and with another list of the same facts
pub same-facts : (x : Sheet) (log log' : Log) (a : List ℕ) → SubLog log log' → SubLog log' log → Case x log a → Case x log' a
same-facts x log log' a up down k =
    part-case x log log' a k down (record { at = λ f m g n. up.at g (k.agreeing.lawful.parented f (down.at f m) g n) })
    (λ w m r n. monotone up ((k.agreeing.agrees w m).none_missing r n)) (monotone up k.asked)

-- ---- without a fact to spare a case has only the facts of the good state's log

abbrev pub less : Fact → Log → Log
less f log = taken_out fact? f log

less_dropped : (f : Fact) (log : Log) → Dropped f log (less f log)
less_dropped f log = record { only = λ g m. of_without fact? f g log m; kept = λ g m ne. in_without fact? f g log m ne }

-- where some of the facts are enough, any other that no fact owes could be dropped
pub drops : (x : Sheet) (log small : Log) (a : List ℕ) → Case x log a → SpareFree x log → SubLog small log → Enough x small a
    → (f : Fact) → In f log → (In f small → ⊥) → ((g : Fact) → In g log → In f (parents x.table g) → ⊥) → ⊥
drops x log small a k spare_free sub e f m out unowed = spare_free f m (less f log) (less_dropped f log) a (between x log (less f log) small a k e
    (record { at = λ g n. in_without fact? f g log (sub.at g n) (λ p. out (subst (λ z. In z small) p n)) })
    (record { at = λ g n. (of_without fact? f g log n).0 })
    (record {
      at = λ g n h p. in_without fact? f h log (k.agreeing.lawful.parented g (of_without fact? f g log n).0 h p)
          (λ q. unowed g (of_without fact? f g log n).0 (subst (λ z. In z (parents x.table g)) q p));
    }))

module _ (x : Sheet) {top : ℕ} (ok : FineSheet top x) (log : Log) (a : List ℕ) (k : Case x log a) (spare_free : SpareFree x log) (i : Inside x log a) where
  abbrev small : Log
  small = tableau_log x i.state

  small-enough : Enough x small a
  small-enough = let c = good-case x ok i.state i.good in record { given = λ w m. (c.agreeing.agrees w m).none_missing; asked = subst (Answer small x.question) i.head c.asked }

  outside : (f : Fact) → In f log → (In f small → ⊥) → ((g : Fact) → In g log → In f (parents x.table g) → ⊥) → ⊥
  outside = drops x log small a k spare_free i.within small-enough

  -- a fact that owes a row is owed by none, so it is inside; hence so is what it owes
  owing : (f g : Fact) → In f log → In g (parents x.table f) → In f small
  owing f g m p = ⊎_elim (λ n. n) (λ out. absurd (outside f m out (λ h n q. no_grandparent x.table ok.table h f g q p))) (in-or fact? f small)

  pub inside : SubLog log small
  inside = record {
    at = λ f m. ⊎_elim (λ n. n)
        (λ out. absurd (outside f m out (λ g n p. out (log-parented x i.state ok.table g (owing g f n p) f p)))) (in-or fact? f small);
  }

-- ---- the number of those facts

numbered_total : (f : Job → ℕ) (js : List Job) → total (λ c. f c.job) (numbered js) ≡ total f js
numbered_total f [] = refl
numbered_total f (j ∷ js) = let h = total-map (λ c. f c.job) later (numbered js) in let r = numbered_total f js in omega arith

abbrev atoms_in : Job → ℕ
atoms_in j = length j.block.atoms

listed-total : (w : View) → total atoms_in (listed w) ≡ length w.rows * length w.block.atoms
listed-total w = total-map atoms_in _ w.rows ∙ total-each (length w.block.atoms) w.rows

rows-total : (ws : List View) → total atoms_in (gather listed ws) ≡ row_atoms ws
rows-total [] = refl
rows-total (w ∷ ws) = let h = total_append atoms_in (listed w) (gather listed ws) in let l = listed-total w in let r = rows-total ws in omega arith

facts-length : (x : Sheet) (t : State) → length (facts x t) ≡ size x
facts-length x t =
    gather-length (copy_facts t) (numbered (jobs x))
    ∙ total-same _ (λ c. atoms_in c.job) (λ c. length-map c.job.block.atoms (fact_of (copy t c.number))) (numbered (jobs x))
    ∙ numbered_total atoms_in (jobs x)
    ∙ ap (λ n. length x.question.atoms + n) (rows-total x.views)

owed-most : (p : ℕ) (r : List ℕ) → length (owed p r) ≤ 1
owed-most zero r = omega arith
owed-most (suc p) r = omega arith

owed_none : (p : ℕ) (r : List ℕ) → p ≡ 0 → length (owed p r) ≡ 0
owed_none zero r e = refl
owed_none (suc p) r e = absurd (omega arith)

module _ (table : Table) where
  closed-most : (l : Log) → length (gather (with_parents table) l) ≤ 2 * length l
  closed-most [] = omega arith
  closed-most (f ∷ l) =
      let h = length-append (with_parents table f) (gather (with_parents table) l) in
      let o = owed-most (relation table f.rel).parent f.row in
      let r = closed-most l in
      omega arith

  closed_same : ((n : ℕ) → (relation table n).parent ≡ 0) → (l : Log) → length (gather (with_parents table) l) ≡ length l
  closed_same none [] = refl
  closed_same none (f ∷ l) =
      let h = length-append (with_parents table f) (gather (with_parents table) l) in
      let o = owed_none (relation table f.rel).parent f.row (none f.rel) in
      let r = closed_same none l in
      omega arith

module _ (x : Sheet) {top : ℕ} (ok : FineSheet top x) (log : Log) (a : List ℕ) (k : Case x log a) (spare_free : SpareFree x log) (distinct : Distinct log) where
  fits : length log ≤ length (tableau_log x (case-good x ok log a k).state)
  fits = at_most fact? log (tableau_log x (case-good x ok log a k).state) distinct (inside x ok log a k spare_free (case-good x ok log a k)).at

  pub at-most-twice : length log ≤ 2 * size x
  unfolding tableau_log
  at-most-twice =
      let t = (case-good x ok log a k).state in
      let h = fits in
      let c = closed-most x.table (facts x t) in
      let l = facts-length x t in
      omega arith

  pub at_most_size : ((n : ℕ) → (relation x.table n).parent ≡ 0) → length log ≤ size x
  unfolding tableau_log
  at_most_size none =
      let t = (case-good x ok log a k).state in
      let h = fits in
      let c = closed_same x.table none (facts x t) in
      let l = facts-length x t in
      omega arith

-- ---- dropping facts

-- it is enough to try one list without f
pub spare_free_by : (x : Sheet) (log : Log) → ((f : Fact) → In f log → (a : List ℕ) → Case x (less f log) a → ⊥) → SpareFree x log
spare_free_by x log none f m rest drop a c = none f m a (same-facts x rest (less f log) a
    (record { at = λ g i. let (p, ne) = drop.only g i in in_without fact? f g log p ne })
    (record { at = λ g i. let (p, ne) = of_without fact? f g log i in drop.kept g p ne }) c)

-- a case without a fact to spare, with some of the log's facts
pub record SpareFreeCase (x : Sheet) (log : Log) : Type 0 where
  pub rest : Log
  pub answer : List ℕ
  pub still : Case x rest answer
  pub spare_free : SpareFree x rest
  pub distinct : Distinct rest
  pub within : SubLog rest log

module _ (x : Sheet) (decide : (log : Log) → ((a : List ℕ) × Case x log a) ⊎ ((a : List ℕ) → Case x log a → ⊥)) where
  -- a fact whose dropping leaves a case
  abbrev search_spare : (log fs : Log) → ((f : Fact) → In f fs → In f log)
      → ((f : Fact) × In f log × (a : List ℕ) × Case x (less f log) a) ⊎ ((f : Fact) → In f fs → (a : List ℕ) → Case x (less f log) a → ⊥)
  search_spare log [] sub = inr (λ f m. absurd m)
  search_spare log (f ∷ fs) sub = go (search_spare log fs (λ g m. sub g (inr m))) (decide (less f log))
    where
      go : ((g : Fact) × In g log × (a : List ℕ) × Case x (less g log) a) ⊎ ((g : Fact) → In g fs → (a : List ℕ) → Case x (less g log) a → ⊥)
          → ((a : List ℕ) × Case x (less f log) a) ⊎ ((a : List ℕ) → Case x (less f log) a → ⊥)
          → ((g : Fact) × In g log × (a : List ℕ) × Case x (less g log) a) ⊎ ((g : Fact) → In g (f ∷ fs) → (a : List ℕ) → Case x (less g log) a → ⊥)
      go rec (inl (a, k)) = inl (f, sub f (inl refl), a, k)
      go (inl found) (inr none) = inl found
      go (inr rest) (inr none) = inr (λ g m a k. ⊎_elim (λ e. none a (subst (λ z. Case x (less z log) a) e k)) (λ n. rest g n a k) m)

  abbrev shrink-by : (n : ℕ) (log : Log) (a : List ℕ) → length log < n → Distinct log → Case x log a → SpareFreeCase x log
  shrink-by zero log a h d k = absurd (omega arith)
  shrink-by (suc n) log a h d k = go (λ l b p q c. shrink-by n l b p q c) (search_spare log log (λ f m. m))
    where
      go : ((l : Log) (b : List ℕ) → length l < n → Distinct l → Case x l b → SpareFreeCase x l)
          → ((f : Fact) × In f log × (b : List ℕ) × Case x (less f log) b) ⊎ ((f : Fact) → In f log → (b : List ℕ) → Case x (less f log) b → ⊥) → SpareFreeCase x log
      go rec (inl (f, m, b, c)) =
          let fewer = without_fewer fact? f log m in
          let r = rec (less f log) b (omega arith) (without-distinct fact? f log d) c in
          record {
            rest = r.rest;
            answer = r.answer;
            still = r.still;
            spare_free = r.spare_free;
            distinct = r.distinct;
            within = record { at = λ g i. (of_without fact? f g log (r.within.at g i)).0 };
          }
      go rec (inr none) = record {
        rest = log;
        answer = a;
        still = k;
        distinct = d;
        spare_free = spare_free_by x log none;
        within = record { at = λ g i. i };
      }

  abbrev pub shrink : (log : Log) (a : List ℕ) → Distinct log → Case x log a → SpareFreeCase x log
  shrink log a d k = shrink-by (suc (length log)) log a (omega arith) d k
