-- In a case without a fact to spare every fact is needed: facts of it that are enough for the listed rows and the answer are all it has.
use mathlib.Core.Path.{◌≡◌, refl}
use mathlib.Core.List.{List, [], ◌∷◌}
use mathlib.Core.Logic.{⊎_elim}
use Prim.Native.Nat.{ℕ}
use native.Mathlib.Omega.{arith}
use lib.ListN.{length}
use Rattle.query_meaning.specs.Meaning.{Term, Fact, Log, Atom, Block, In, row, fact_of, Answer}
use Rattle.query_meaning.specs.Blocks.{View}
use Rattle.case_verdicts.specs.Table.{parents, Sound}
use Rattle.case_verdicts.specs.Verdict.{Sheet}
use Rattle.case_verdicts.specs.Handed.{Distinct, Handed}
use Rattle.case_verdicts.proofs.Laws.{SubLog}
use Rattle.case_verdicts.proofs.Distinct.{at_most, in-or}
use Rattle.case_verdicts.proofs.Decide.{fact?, first-all}
use Rattle.case_verdicts.proofs.Tableau.{no_grandparent}
use Rattle.case_verdicts.proofs.Shrink.{Enough, drops}

-- these are the log's facts, each once
pub record Exactly (log facts : Log) : Type 0 where
  pub has : SubLog facts log
  pub no_more : SubLog log facts
  pub count : length log ≡ length facts

-- facts of the log that are enough, and with them what they owe: a fact that owes another is owed by none, so it is one of these
pub needed : {x : Sheet} {top end : ℕ} → Sound x.table → (h : Handed top end x) (small facts : Log) → Distinct facts → SubLog small facts → SubLog facts h.log
    → ((g : Fact) → In g small → (f : Fact) → In f (parents x.table g) → In f facts) → Enough x small h.answer → Exactly h.log facts
needed {x} sound h small facts once low sub closed enough =
    let few = at_most fact? h.log facts h.distinct all in
    let many = at_most fact? facts h.log once sub.at in
    record { has = sub; no_more = record { at = all }; count = omega arith }
  where
    within : SubLog small h.log
    within = record { at = λ f m. sub.at f (low.at f m) }

    -- a fact that none owes is enough for something
    unowed : (f : Fact) → In f h.log → ((g : Fact) → In g h.log → In f (parents x.table g) → ⊥) → In f small
    unowed f m none = ⊎_elim (λ i. i) (λ out. absurd (drops x h.log small h.answer h.is h.spare_free within enough f m out none)) (in-or fact? f small)

    owing : (g f : Fact) → In g h.log → In f (parents x.table g) → In f facts
    owing g f n p = closed g (unowed g n (λ k i q. no_grandparent x.table sound k g f q p)) f p

    all : (f : Fact) → In f h.log → In f facts
    all f m = ⊎_elim (λ i. i) (λ out. absurd (out (low.at f (unowed f m (λ g n p. out (owing g f n p)))))) (in-or fact? f facts)

-- ---- blocks of one atom

abbrev one : List Term → Atom → Block
one ts a = record { head = ts; atoms = a ∷ []; apart = [] }

-- a fact that fits the atom gives the block an answer
pub answer_of : (log : Log) (ts : List Term) (a : Atom) (v : ℕ → ℕ) → In (fact_of v a) log → Answer log (one ts a) (row v ts)
answer_of log ts a v m = record { val = v; holds = first-all (λ c. In (fact_of v c) log) a [] m (λ c i. absurd i); differ = λ d i. absurd i; gives = refl }

-- ---- lists of one and of two elements

pub sole : {A : Type 0} (P : A → Type 0) (y : A) → P y → (x : A) → In x (y ∷ []) → P x
sole P y p = first-all P y [] p (λ x m. absurd m)

pub both : {A : Type 0} (P : A → Type 0) (y z : A) → P y → P z → (x : A) → In x (y ∷ z ∷ []) → P x
both P y z p q = first-all P y (z ∷ []) p (sole P z q)

pub two-distinct : {A : Type 0} (y z : A) → (y ≡ z → ⊥) → Distinct (y ∷ z ∷ [])
two-distinct y z ne = ((λ m. ⊎_elim ne absurd m), ((λ m. m), tt))

-- the rows of the only view
pub one-view : (facts : Log) (w : View) → ((r : List ℕ) → In r w.rows → Answer facts w.block r)
    → (v : View) → In v (w ∷ []) → (r : List ℕ) → In r v.rows → Answer facts v.block r
one-view facts w = sole (λ v. (r : List ℕ) → In r v.rows → Answer facts v.block r) w
