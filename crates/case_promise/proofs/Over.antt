-- What is handed over: the facts of a case, put in order and shrunk.
use mathlib.Core.Path.{◌≡◌, refl, sym, ap, ◌∙◌, subst}
use mathlib.Core.List.{List, [], ◌∷◌, ◌++◌, map}
use mathlib.Core.Logic.{inl, inr, ⊎_elim}
use Prim.Native.Nat.{ℕ, zero, suc, ◌+◌, ◌*◌, ◌/◌, ◌%◌, ◌<◌, ◌≤◌}
use native.Mathlib.Nat.{add-zero}
use native.Mathlib.Omega.{arith}
use lib.IntN.{pos}
use lib.ListN.{length, get_or, take, drop, length-drop, get_or-eq_default}
use lib.Seq.{get_or-take, length-take-le}
use Rattle.tableau_layout.specs.Layout.{plan_numbers, table_at, tableau_atoms}
use Rattle.list_laws.specs.Order.{◌⊏◌}
use Rattle.list_laws.proofs.Order.{less?}
use Rattle.sheet_format.specs.Limits.{most_relations}
use Rattle.sheet_format.specs.Table.{Table, relation, columns_of}
use Rattle.sheet_terms.proofs.Laws.{columns-most}
use Rattle.sheet_format.proofs.TableLaws.{Narrow}
use Rattle.query_meaning.specs.Meaning.{Fact, Log, In, fact}
use Rattle.query_meaning.specs.Facts.{facts_refusal, log_of, value_end, most_facts}
use Rattle.query_encoding.specs.Encoding as numbers
use Rattle.query_encoding.specs.Encoding.{FactNumbers, ShapedLog, padded}
use Rattle.query_encoding.proofs.Lists.{at_in, in-at}
use Rattle.query_facts.proofs.Laws.{shaped-log}
use Rattle.case_verdicts.specs.Verdict.{Sheet, Case}
use Rattle.case_verdicts.specs.Handed.{SpareFree, Distinct, Handed}
use Rattle.case_verdicts.specs.Sheets.{top}
use Rattle.case_verdicts.proofs.Laws.{SubLog}
use Rattle.case_verdicts.proofs.Known.{stands-small}
use Rattle.case_verdicts.proofs.Shrink.{same-facts}
use Rattle.case_verdicts.proofs.Check as check
use Rattle.case_verdicts.proofs.Check.{MadeUp}
use Rattle.tableau_plan.specs.Plan.{plan_table}
use Rattle.tableau_parts.specs.Views.{LeastMissing}
use Rattle.case_order.specs.Order.{five_at, Rising, Among, Ordered}
use Rattle.case_minimization.specs.Minimization.{IsCase, SubFacts, Shrunk}
use Rattle.search_task.specs.Task.{ReadyPlan}
use Rattle.case_promise.proofs.Words.{FineFact, dropped_numbers, fine-fact, fine-same, rising-far, same-fact, same-five, words-accepted, words_count, words-distinct, words-numbers}
use Rattle.case_promise.proofs.Cases.{KnownLog, KeyedLog, case-numbers, least-case}

-- a case and its missing answer, in plain numbers: k facts and a row
pub record HandedNumbers (x : Sheet) (ks : List ℕ) (k : ℕ) (u : List ℕ) : Type 0 where
  pub handed : Handed top value_end x
  pub log_is : handed.log ≡ log_of x.table (map pos ks)
  pub accepted : (facts_refusal x.table (map pos ks)).number ≡ 0
  pub count : length ks ≡ k * 5
  pub facts : length handed.log ≡ k
  pub answer-is : u ≡ padded handed.answer
  -- the numbers fit words
  pub few : k ≤ tableau_atoms
  pub small : (j : ℕ) → j < length ks → get_or ks j 0 < 2147483648

-- ---- facts picked from others

-- the k facts of `ks` are some of the first n facts of `ns`, ascending
record Picked (ns : List ℕ) (n : ℕ) (ks : List ℕ) (k : ℕ) : Type 0 where
  count : length ks ≡ k * 5
  few : k ≤ tableau_atoms
  rising : Rising ks k
  only : (i : ℕ) → i < k → Among ns n (five_at ks i)

pub taken-fact : (ms : List ℕ) (m i : ℕ) → i < m → five_at (take (m * 5) ms) i ≡ five_at ms i
taken-fact ms m i h = same-five (take (m * 5) ms) ms i i
    (get_or-take (m * 5) ms (i * 5) 0 (omega arith)) (λ c o. get_or-take (m * 5) ms (i * 5 + 1 + c) 0 (omega arith))

picked-ordered : {ns : List ℕ} {n : ℕ} {ms : List ℕ} {m : ℕ} → n ≤ tableau_atoms → Ordered ns n ms m → m * 5 ≤ length ms → Picked ns n (take (m * 5) ms) m
picked-ordered {ns} {n} {ms} {m} small o room = record {
  count = length-take-le (m * 5) ms room;
  few = let f = o.few in omega arith;
  rising = λ i h.
      subst (λ f. f ⊏ five_at (take (m * 5) ms) (suc i)) (sym (taken-fact ms m i (omega arith)))
      (subst (λ f. five_at ms i ⊏ f) (sym (taken-fact ms m (suc i) h)) (o.rising i h));
  only = λ i h. let (j, lt, e) = o.only i h in (j, lt, e ∙ sym (taken-fact ms m i h));
}

module _ {ms : List ℕ} {m : ℕ} {ks : List ℕ} {k : ℕ} (t : SubFacts ms m ks k) where
  part-fact : (i : ℕ) → i < k → five_at ms (t.from i) ≡ five_at ks i
  part-fact i h = same-five ms ks (t.from i) i
      (ap (λ n. get_or ms n 0) (sym (add-zero (t.from i * 5))) ∙ sym (t.same i h 0 (omega arith)) ∙ ap (λ n. get_or ks n 0) (add-zero (i * 5)))
      (λ c o.
      let e : t.from i * 5 + 1 + c ≡ t.from i * 5 + suc c = omega arith in
      let f : i * 5 + suc c ≡ i * 5 + 1 + c = omega arith in
      ap (λ n. get_or ms n 0) e ∙ sym (t.same i h (suc c) (omega arith)) ∙ ap (λ n. get_or ks n 0) f)

  from-least : (i : ℕ) → i < k → i ≤ t.from i
  from-least zero h = omega arith
  from-least (suc i) h =
      let l = from-least i (omega arith) in
      let u = t.rising i (suc i) (omega arith) h in
      omega arith

  pub part-few : k ≤ m
  part-few = go k refl
    where
      go : (n : ℕ) → n ≡ k → k ≤ m
      go zero e = omega arith
      go (suc i) e =
          let l = from-least i (omega arith) in
          let u = t.inside i (omega arith) in
          omega arith

picked-part : {ns : List ℕ} {n : ℕ} {ms : List ℕ} {m : ℕ} {ks : List ℕ} {k : ℕ} → Picked ns n ms m → SubFacts ms m ks k → length ks ≡ k * 5 → Picked ns n ks k
picked-part {ns} {n} {ms} {m} {ks} {k} q t size = record {
  count = size;
  few = let a = q.few in let b = part-few t in omega arith;
  rising = λ i h.
      subst (λ f. f ⊏ five_at ks (suc i)) (part-fact t i (omega arith))
      (subst (λ f. five_at ms (t.from i) ⊏ f) (part-fact t (suc i) h)
      (rising-far ms m q.rising (t.from i) (t.from (suc i)) (t.rising i (suc i) (omega arith) h) (t.inside (suc i) h)));
  only = λ i h. let (j, lt, e) = q.only (t.from i) (t.inside i h) in (j, lt, e ∙ part-fact t i h);
}

-- ---- numbers that fit words

-- a relation that a plan's table has has one of the numbers that a table can have
known_small : (p : List ℕ) → length p ≡ plan_numbers → (n : ℕ) → 0 < columns_of (plan_table p) (pos n) → n ≤ most_relations
unfolding columns_of relation
known_small p long zero h = omega arith
known_small p long (suc n) h = ⊎_elim (λ l. omega arith)
    (λ l. let d = length-drop table_at p in let z : get_or (drop table_at p) (n * 3) 0 ≡ 0 = get_or-eq_default (drop table_at p) 0 (omega arith) in absurd (omega arith))
    (less? n most_relations)

fine-small : (table : Table) → ((n : ℕ) → 0 < columns_of table (pos n) → n ≤ most_relations) → (ks : List ℕ) (k : ℕ) → length ks ≡ k * 5 → ((i : ℕ) → i < k → FineFact table ks i) → (j : ℕ) → j < length ks → get_or ks j 0 < 2147483648
fine-small table short ks k size fine j h = go (j / 5) (j % 5) (omega arith) (omega arith) (omega arith)
  where
    go : (i c : ℕ) → j ≡ i * 5 + c → c < 5 → i < k → get_or ks j 0 < 2147483648
    go i zero e l lt = let f = short _ (fine i lt).known in let q : get_or ks j 0 ≡ get_or ks (i * 5) 0 = ap (λ n. get_or ks n 0) (omega arith) in omega arith
    go i (suc c) e l lt = let f = (fine i lt).small c (omega arith) in let q : get_or ks j 0 ≡ get_or ks (i * 5 + 1 + c) 0 = ap (λ n. get_or ks n 0) (omega arith) in omega arith

-- ---- the log of picked facts

module _ (table : Table) (narrow : Narrow table) {ns : List ℕ} {log : Log} (fn : FactNumbers ns log) (sh : ShapedLog table log) (fine : (i : ℕ) → i < length log → FineFact table ns i)
    {ks : List ℕ} {k : ℕ} (q : Picked ns (length log) ks k) where
  picked-fine : (i : ℕ) → i < k → FineFact table ks i
  picked-fine i h = let (j, lt, e) = q.only i h in fine-same table ns ks j i e (fine j lt)

  most : k ≤ most_facts
  most = let f = q.few in omega arith

  picked-accepted : (facts_refusal table (map pos ks)).number ≡ 0
  picked-accepted = words-accepted table ks k q.count most picked-fine q.rising

  picked-numbers : FactNumbers ks (log_of table (map pos ks))
  picked-numbers = words-numbers table ks k q.count most picked-fine q.rising

  picked-count : length (log_of table (map pos ks)) ≡ k
  picked-count = words_count table ks k q.count most picked-fine q.rising

  picked-distinct : Distinct (log_of table (map pos ks))
  picked-distinct = words-distinct table ks k q.count most picked-fine q.rising

  picked-shaped : ShapedLog table (log_of table (map pos ks))
  picked-shaped = shaped-log table narrow (map pos ks) picked-accepted

  -- equal numbers, one fact
  picked_same : (i j : ℕ) → i < length log → j < k → five_at ns i ≡ five_at ks j → numbers.fact_at log i ≡ numbers.fact_at (log_of table (map pos ks)) j
  picked_same i j h g e = let n = picked-count in same-fact table fn picked-numbers sh picked-shaped i j h (omega arith) e

  picked-within : SubLog (log_of table (map pos ks)) log
  picked-within = record {
    at = λ f m.
        let n = picked-count in
        let (i, lt, e) = in-at (fact 0 []) f (log_of table (map pos ks)) m in
        let (j, lj, s) = q.only i (omega arith) in
        subst (λ g. In g log) (picked_same j i lj (omega arith) s ∙ e) (at_in (fact 0 []) log j lj);
  }

  -- all are picked
  picked_all : ((i : ℕ) → i < length log → Among ks k (five_at ns i)) → SubLog log (log_of table (map pos ks))
  picked_all every = record {
    at = λ f m.
        let n = picked-count in
        let (i, lt, e) = in-at (fact 0 []) f log m in
        let (j, lj, s) = every i lt in
        subst (λ g. In g (log_of table (map pos ks))) (sym (picked_same i j lt lj (sym s)) ∙ e) (at_in (fact 0 []) (log_of table (map pos ks)) j (omega arith));
  }

-- ---- a log without its i-th fact

cut_of : (l : Log) (i : ℕ) → i < length l → Distinct l → (g : Fact) → In g (take i l ++ drop (suc i) l) → In g l × (g ≡ numbers.fact_at l i → ⊥)
cut_of [] i h d g m = absurd (omega arith)
cut_of (f ∷ l) zero h (out, d) g m = (inr m, λ e. out (subst (λ k. In k l) e m))
cut_of (f ∷ l) (suc i) h (out, d) g (inl e) = (inl e, λ q. out (subst (λ k. In k l) (sym q ∙ e) (at_in (fact 0 []) l i (omega arith))))
cut_of (f ∷ l) (suc i) h (out, d) g (inr m) = let (k, ne) = cut_of l i (omega arith) d g m in (inr k, ne)

in_cut : (l : Log) (i : ℕ) → i < length l → (g : Fact) → In g l → (g ≡ numbers.fact_at l i → ⊥) → In g (take i l ++ drop (suc i) l)
in_cut [] i h g m ne = absurd m
in_cut (f ∷ l) zero h g (inl e) ne = absurd (ne e)
in_cut (f ∷ l) zero h g (inr m) ne = m
in_cut (f ∷ l) (suc i) h g (inl e) ne = inl e
in_cut (f ∷ l) (suc i) h g (inr m) ne = inr (in_cut l i (omega arith) g m ne)

-- it is enough to try each place
spare_free_places : (x : Sheet) (l : Log) → Distinct l → ((i : ℕ) → i < length l → (t : List ℕ) → Case x (take i l ++ drop (suc i) l) t → ⊥) → SpareFree x l
spare_free_places x l d none f m rest z t c =
    let (i, lt, e) = in-at (fact 0 []) f l m in
    none i lt t (same-facts x rest (take i l ++ drop (suc i) l) t
    (record { at = λ g n. let (k, ne) = z.only g n in in_cut l i lt g k (λ q. ne (q ∙ e)) })
    (record { at = λ g n. let (k, ne) = cut_of l i lt d g n in z.kept g k (λ q. ne (q ∙ sym e)) }) c)

-- ---- in order, and shrunk

module _ (p : List ℕ) (x : Sheet) (r : ReadyPlan p x) {ns : List ℕ} {log : Log} (fn : FactNumbers ns log) (sh : ShapedLog x.table log) (known : KnownLog x.table log) (keyed : KeyedLog x.table log)
    (few : length log ≤ tableau_atoms) (made : MadeUp top value_end x log) {ms : List ℕ} {m : ℕ} (o : Ordered ns (length log) ms m) (room : m * 5 ≤ length ms) where
  narrow : Narrow x.table
  narrow = subst Narrow (sym r.plan.table) (columns-most (drop table_at p))

  fine : (i : ℕ) → i < length log → FineFact x.table ns i
  fine = fine-fact x.table fn sh known (λ f i n j. ⊎_elim (λ s. let h = stands-small x r.accepted n s in omega arith) (λ s. s.1) (made f i n j))

  ordered : Picked ns (length log) (take (m * 5) ms) m
  ordered = picked-ordered few o room

  -- in order it is a case still
  pub ordered-case : (a : List ℕ) → Case x log a → IsCase p (take (m * 5) ms)
  ordered-case a c =
      case-numbers p x r (picked-numbers x.table narrow fn sh fine ordered) (picked-shaped x.table narrow fn sh fine ordered) a
      (same-facts x log (log_of x.table (map pos (take (m * 5) ms))) a
      (picked_all x.table narrow fn sh fine ordered (λ i h. let (j, lt, e) = o.every i h in (j, lt, taken-fact ms m j lt ∙ e)))
      (picked-within x.table narrow fn sh fine ordered) c)

  -- shrunk it can be handed over
  pub handed-numbers : {ks : List ℕ} {k : ℕ} → Shrunk p (take (m * 5) ms) m ks k → (u : List ℕ) → LeastMissing p ks u → HandedNumbers x ks k u
  handed-numbers {ks} {k} s u least =
      let (a, e, c, l) = least-case p x r told shaped (λ f i. known f (within.at f i)) (λ f g i j. keyed f g (within.at f i) (within.at g j)) s.still.0 s.still.2 u least in
      record {
        handed = check.handed x r.accepted rest a c l spare_free distinct (λ f i. made f (within.at f i));
        log_is = refl;
        accepted = picked-accepted x.table narrow fn sh fine picked;
        count = s.count;
        facts = size;
        answer-is = e;
        few = picked.few;
        small = fine-small x.table (λ n h. known_small p r.plan.size n (subst (λ t. 0 < columns_of t (pos n)) r.plan.table h)) ks k s.count (picked-fine x.table narrow fn sh fine picked);
      }
    where
      picked : Picked ns (length log) ks k
      picked = picked-part ordered s.part s.count

      rest : Log
      rest = log_of x.table (map pos ks)

      told : FactNumbers ks rest
      told = picked-numbers x.table narrow fn sh fine picked

      shaped : ShapedLog x.table rest
      shaped = picked-shaped x.table narrow fn sh fine picked

      within : SubLog rest log
      within = picked-within x.table narrow fn sh fine picked

      size : length rest ≡ k
      size = picked-count x.table narrow fn sh fine picked

      distinct : Distinct rest
      distinct = picked-distinct x.table narrow fn sh fine picked

      spare_free : SpareFree x rest
      spare_free = spare_free_places x rest distinct (λ i lt t c.
          s.spare_free i (let n = size in omega arith)
          (case-numbers p x r (dropped_numbers told i lt) (λ f n. shaped f (cut_of rest i lt distinct f n).0) t c))
