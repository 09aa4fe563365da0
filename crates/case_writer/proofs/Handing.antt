-- From a good state in words to the case that is handed over, step by step.
use mathlib.Core.Path.{◌≡◌, refl, sym, ap, ◌∙◌, subst}
use mathlib.Core.Bool.{Bool, true, false}
use mathlib.Core.List.{List, [], ◌∷◌, ◌++◌, map}
use mathlib.Core.Logic.{◌⊎◌, inl, inr, ⊎_elim}
use Prim.Native.Nat.{ℕ, zero, suc, ◌+◌, ◌-◌, ◌*◌, ◌<◌, ◌≤◌}
use native.Mathlib.Omega.{arith}
use lib.IntN.{ℤ, pos}
use lib.ListN.{length, get_or, take, drop, length-map}
use lib.Seq.{length-take-le}
use Rattle.query_layout.specs.Layout.{names}
use Rattle.tableau_layout.specs.Layout.{plan_numbers, slot_end, tableau_atoms, tableau_numbers}
use Rattle.list_laws.proofs.Lists.{inside}
use Rattle.sheet_format.specs.Table.{columns_of}
use Rattle.query_meaning.specs.Meaning.{Fact, Log, In}
use Rattle.query_meaning.specs.Facts as facts
use Rattle.query_meaning.specs.Facts.{value_end}
use Rattle.query_encoding.specs.Encoding.{FactNumbers, ShapedLog}
use Rattle.query_blocks.proofs.Shape.{from-map}
use Rattle.list_laws.specs.Wrote.{Wrote}
use Rattle.case_verdicts.specs.Verdict.{Sheet, Case}
use Rattle.case_verdicts.specs.Handed.{Stands}
use Rattle.case_verdicts.specs.Sheets.{top}
use Rattle.case_verdicts.specs.Accepted.{width}
use Rattle.case_verdicts.specs.Tableau.{State, jobs, tableau_log, head_of}
use Rattle.case_verdicts.specs.Words.{state_of}
use Rattle.case_verdicts.proofs.Tableau.{log-formed}
use Rattle.case_verdicts.proofs.Reduce.{good-case}
use Rattle.case_verdicts.proofs.Known.{slots, of_upto, known-log}
use Rattle.case_verdicts.proofs.Check.{MadeUp}
use Rattle.tableau_plan.specs.Plan.{tableau_size, tableau_facts}
use Rattle.tableau_parts.specs.Views.{MissingBy}
use Rattle.tableau_parts.specs.Walks as walks
use Rattle.case_order.specs.Order.{five_at, Ordered}
use Rattle.case_minimization.specs.Minimization.{IsCase, Shrunk}
use Rattle.search_task.specs.Task.{ReadyPlan}
use Rattle.search_node.specs.Node.{StateFound}
use Rattle.search_task.proofs.Node as node
use Rattle.search_task.proofs.ReadyLaws.{ready_task}
use Rattle.search_task.proofs.NodeLaws.{facts-by, ready-views}
use Rattle.case_promise.proofs.Cases.{KnownLog}
use Rattle.case_promise.proofs.Over.{HandedNumbers, taken-fact, part-few, ordered-case, handed-numbers}
use Rattle.case_writer.specs.Over.{SpareFreeIn, HandsOver}
use Rattle.search_task.specs.declared.Goal.TheVariants.{Counterexample}

-- ordered facts are those of the front of the words
ordered-front : (ns : List ℕ) (n : ℕ) (ms : List ℕ) (m : ℕ) → Ordered ns n ms m → Ordered (take (n * 5) ns) n ms m
ordered-front ns n ms m o = record {
  few = o.few;
  rising = o.rising;
  only = λ i h. let (j, lt, e) = o.only i h in (j, lt, taken-fact ns n j lt ∙ e);
  every = λ i h. let (j, lt, e) = o.every i h in (j, lt, e ∙ sym (taken-fact ns n i h));
}

module _ (p : List ℕ) (x : Sheet) (r : ReadyPlan p x) (st : List ℕ) (f : StateFound x x st) where
  abbrev s : State
  s = state_of top st

  abbrev log : Log
  log = tableau_log x s

  case : Case x log (head_of x s)
  case = good-case x r.accepted s f.good

  known : KnownLog x.table log
  unfolding columns_of
  known g m = (log-formed x r.accepted s g m).known

  -- each value stands in the sheet, or was made up
  made : MadeUp top value_end x log
  unfolding width
  made g m n i = ⊎_elim (λ k. inl k) slot (known-log x r.accepted s g m n i)
    where
      slot : In n (map s (slots x)) → Stands x n ⊎ ((top ≤ n) × (n < value_end))
      slot j =
          let (k, w, e) = from-map s (slots x) n j in
          let h = of_upto (length (jobs x) * names) k w in
          let c = r.plan.copies in
          let d = r.plan.rows_few in
          let z = f.size in
          let q : n ≡ get_or st k 0 = e ∙ inside st k (top + k) 0 (omega arith) in
          ⊎_elim (λ t. inl (subst (Stands x) (sym q) t)) (λ t. let low = t.0 in let high = t.1 in inr (omega arith, omega arith)) (f.stood k (omega arith))

  -- ---- the state's facts

  module _ (one : List ℕ) (n : ℕ) (size : n ≡ tableau_size p - 0) (one-length : length one ≡ tableau_numbers) (told : take (n * 5) one ≡ tableau_facts p s 0 n) where
    pub facts-few : n ≤ tableau_atoms
    facts-few = let h = r.plan.few in omega arith

    numbers : FactNumbers (take (n * 5) one) log
    numbers = facts-by p x r Counterexample s (take (n * 5) one) 0 n refl size told

    count : length log ≡ n
    count = let a = numbers.count in let h = facts-few in let b = length-take-le (n * 5) one (omega arith) in omega arith

    shaped : ShapedLog x.table log
    shaped = node.shaped-log p x x r.plan (ready_task p x r Counterexample) s (take (n * 5) one) numbers

    -- ---- in order

    module _ (two : List ℕ) (m : ℕ) (o : Ordered one n two m) (two-length : length two ≡ tableau_numbers) where
      pub ordered-few : m ≤ tableau_atoms
      ordered-few = let a = o.few in let b = facts-few in omega arith

      ordered : Ordered (take (n * 5) one) (length log) two m
      ordered = subst (λ k. Ordered (take (n * 5) one) k two m) (sym count) (ordered-front one n two m o)

      few : length log ≤ tableau_atoms
      few = let a = facts-few in let b = count in omega arith

      room : m * 5 ≤ length two
      room = let a = ordered-few in omega arith

      pub ordered-is : IsCase p (take (m * 5) two)
      ordered-is = ordered-case p x r numbers shaped known f.good.keyed few made ordered room (head_of x s) case

      -- ---- shrunk

      module _ (three : List ℕ) (k : ℕ) (shrunk : Shrunk p (take (m * 5) two) m (take (k * 5) three) k) where
        pub shrunk-few : k ≤ tableau_atoms
        shrunk-few = let a = ordered-few in let b = part-few shrunk.part in omega arith

        pub handed : (some : Bool) (u : List ℕ) → MissingBy some p (take (k * 5) three) u → HandedNumbers x (take (k * 5) three) k u
        handed true u least = handed-numbers p x r numbers shaped known f.good.keyed few made ordered room shrunk u least
        handed false u lacking = absurd (lacking shrunk.still.1.0 shrunk.still.1.1)

-- what state::facts, order::arrange and shrink::shrink ensure, together
pub spare_free_in : (p : List ℕ) (x : Sheet) (r : ReadyPlan p x) (st : List ℕ) (f : StateFound x x st) (none one two three : List ℕ) (n m k : ℕ) → length none ≡ tableau_numbers → length one ≡ length none → length two ≡ length one
    → (length p ≡ plan_numbers → 0 ≤ tableau_size p → tableau_size p ≤ tableau_atoms → slot_end ≤ length st → tableau_numbers ≤ length none → (n ≡ tableau_size p - 0) × (take (n * 5) one ≡ tableau_facts p (state_of top st) 0 n))
    → (n * 5 ≤ length one → Ordered one n two m × (length two ≡ length one))
    → (walks.FormedPlan p → m ≤ tableau_atoms → m * 5 ≤ length two → IsCase p (take (m * 5) two) → Shrunk p (take (m * 5) two) m (take (k * 5) three) k)
    → (k ≤ tableau_atoms) × SpareFreeIn p x (take (k * 5) three) k
spare_free_in p x r st f none one two three n m k l-none l-one l-two state-facts arrange shrink =
    let z = f.size in
    let (size, told) = state-facts r.plan.size (omega arith) r.plan.few (omega arith) (omega arith) in
    let a : length one ≡ tableau_numbers = omega arith in
    let b : length two ≡ tableau_numbers = omega arith in
    let few = facts-few p x r st f one n size a told in
    let (o, same) = arrange (omega arith) in
    let m-few = ordered-few p x r st f one n size a told two m o b in
    let s = shrink (ready-views p x r) m-few (omega arith) (ordered-is p x r st f one n size a told two m o b) in
    (shrunk-few p x r st f one n size a told two m o b three k s, record { handed = handed p x r st f one n size a told two m o b three k s })

-- ---- written

pub written : (x : Sheet) (ks : List ℕ) (k : ℕ) (u : List ℕ) (out after : List ℤ) → HandedNumbers x ks k u → Wrote out after 0 (length ks) (map pos ks) → HandsOver x out after k u
written x ks k u out after h w =
    let e : 5 * k ≡ length ks = (let c = h.count in omega arith) in
    let front : take (5 * k) after ≡ map pos ks = ap (λ n. take n after) e ∙ w.front in
    record {
      handed = h.handed;
      count = sym h.facts;
      answer = h.answer-is;
      facts = subst (λ ws. (facts.facts_refusal x.table ws).number ≡ 0) (sym front) h.accepted;
      read = ap (facts.log_of x.table) front ∙ sym h.log_is;
      rest = ap (λ n. drop n after) e ∙ w.back ∙ ap (λ n. drop n out) (sym e);
      same = w.same;
    }
