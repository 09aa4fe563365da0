-- What a state is found to be: by the lists and the stray rows that its facts give.
use mathlib.Core.Path.{◌≡◌, refl, sym, ap, ◌∙◌, subst}
use mathlib.Core.Bool.{Bool, true, false, not, true≢false}
use mathlib.Core.List.{List}
use mathlib.Core.Logic.{inl, inr}
use Prim.Native.Nat.{ℕ, ◌+◌, ◌-◌, ◌*◌, ◌/◌, ◌<◌, ◌≤◌, min}
use native.Mathlib.Omega.{arith}
use lib.ListN.{length, length-map}
use Rattle.query_layout.specs.Layout.{names}
use Rattle.sheet_format.specs.Limits.{most_atoms}
use Rattle.tableau_layout.specs.Layout.{tableau_atoms, list_block}
use Rattle.query_meaning.specs.Meaning.{Block, In, row, Answer}
use Rattle.query_meaning.specs.Blocks.{nowhere}
use Rattle.query_join.specs.Joins.{SafeBlock}
use Rattle.query_encoding.specs.Encoding.{BlockNumbers, FactNumbers, Shaped, padded}
use Rattle.query_encoding.proofs.Lists.{at_in, in-at}
use Rattle.query_encoding.proofs.Bridge.{head-row, safe-block}
use Rattle.case_verdicts.specs.Verdict.{Sheet}
use Rattle.case_verdicts.specs.Accepted.{width}
use Rattle.case_verdicts.specs.Sheets.{top}
use Rattle.case_verdicts.specs.Tableau.{State, tableau_log, head_of, copy, Good, bare}
use Rattle.case_verdicts.specs.Search.{Refuted}
use Rattle.tableau_plan.specs.Plan.{list_count, saved_list_at, block_numbers, block_size, tableau_size, tableau_facts, asked_size}
use Rattle.tableau_plan.proofs.Tableau.{tableau_length}
use Rattle.tableau_parts.specs.Views.{GivenAt, GivenToList, SafePlan, StrayAt, NoStray, StrayBy}
use Rattle.tableau_parts.specs.Walks as walks
use Rattle.search_keys.specs.Keys.{KeysHold}
use Rattle.search_task.specs.Task.{ReadyPlan, sheet_by, from_by, goal_facts, HeadsSettled, asked_row, asks}
use Rattle.search_task.proofs.Node.{list-refuted, list_lacks, good-state}
use Rattle.search_task.proofs.ReadyLaws.{ready_task, ready-facts}
use Rattle.search_task.specs.declared.Goal.{Goal}
use Rattle.search_task.specs.declared.Goal.TheVariants.{Counterexample, Agreement}

safe_at : {blk : List ℕ} {n : ℕ} {b : Block} → BlockNumbers blk n b → SafeBlock blk n → SafeBlock blk (min n most_atoms)
safe_at {blk} {n} bn s = subst (λ m. SafeBlock blk m) (let f = bn.few in let e : n ≡ min n most_atoms = omega arith in e) s

-- a copy's valuation, with the width in digits
copy_at : (s : State) (k : ℕ) → (λ (z : ℕ). s (k * names + z)) ≡ copy s k
unfolding width
copy_at s k = refl

-- a sheet without its question is not asked
pub unasked : {A : Type 0} {b c : Bool} → b ≡ c → not b ≡ true → c ≡ true → A
unasked {b = true} {c} q e f = absurd (true≢false (sym e))
unasked {b = false} {c} q e f = absurd (true≢false (sym f ∙ sym q))

-- what is searched for, by whether the question is asked
pub asking : (goal : Goal) → asks goal ≡ true → goal ≡ Counterexample
asking Counterexample e = refl
asking Agreement e = absurd (true≢false (sym e))

pub from-asked : (goal : Goal) (p : List ℕ) → asks goal ≡ true → 0 ≡ from_by goal p
from-asked Counterexample p e = refl
from-asked Agreement p e = absurd (true≢false (sym e))

pub from-unasked : (goal : Goal) (p : List ℕ) → asks goal ≡ false → asked_size p ≡ from_by goal p
from-unasked Counterexample p e = absurd (true≢false e)
from-unasked Agreement p e = refl

module _ (p : List ℕ) (x : Sheet) (r : ReadyPlan p x) where
  -- each index below their count has a list of the sheet, and each list of the sheet has one
  pub list_in : (i : ℕ) → i < list_count p → In (saved_list_at x i) x.lists
  list_in i lt = let c = r.plan.lists in at_in nowhere.block x.lists i (omega arith)

  pub list_index : (l : Block) → In l x.lists → (i : ℕ) × (i < list_count p) × (saved_list_at x i ≡ l)
  list_index l m = let c = r.plan.lists in let (i, lt, e) = in-at nowhere.block l x.lists m in (i, omega arith, e)

  pub list-shaped : (i : ℕ) → i < list_count p → Shaped x.table (saved_list_at x i)
  list-shaped i lt = (r.lists (saved_list_at x i) (list_in i lt)).0

  safe : SafePlan p
  safe b (inl e) = subst (λ c. SafeBlock (block_numbers p c) (min (block_size p c) most_atoms)) (sym e) (safe_at r.plan.question (safe-block r.plan.question r.question))
  safe b (inr (inl (i, lt, e))) = subst (λ c. SafeBlock (block_numbers p c) (min (block_size p c) most_atoms)) (sym e) (safe_at (r.plan.list i lt) (safe-block (r.plan.list i lt) (list-shaped i lt)))
  safe b (inr (inr (v, lt, e))) = subst (λ c. SafeBlock (block_numbers p c) (min (block_size p c) most_atoms)) (sym e) (safe_at (r.plan.view v lt) (safe-block (r.plan.view v lt) (r.views v lt)))

  pub ready-views : walks.FormedPlan p
  ready-views = record {
    size = r.plan.size;
    rows_few = r.plan.rows_few;
    lists_few = r.plan.lists_few;
    views_few = r.plan.views_few;
    row_views = λ i lt. (r.plan.rows i lt).view;
    safe = safe;
  }

  -- the question's head under the first copy's valuation, in numbers
  asked-head : (s : State) → asked_row p s ≡ padded (head_of x s)
  asked-head s = head-row r.plan.question r.question (λ z. s (0 * names + z)) ∙ ap (λ v. padded (row v x.question.head)) (copy_at s 0)

  head-length : (s : State) → length (head_of x s) ≡ length x.question.head
  head-length s = length-map x.question.head _

  -- a list is given the head: nothing below is good
  pub shut : (s : State) (ns : List ℕ) → FactNumbers ns (tableau_log x s) → GivenToList p ns (asked_row p s) → Refuted top x s
  shut s ns fn (i, lt, g) =
      list-refuted p x x r.plan (ready_task p x r Counterexample) s ns fn i (saved_list_at x i) (list_in i lt) (list-shaped i lt) (r.plan.list i lt) (subst (GivenAt p (list_block i) ns) (asked-head s) g)
      ((r.lists (saved_list_at x i) (list_in i lt)).1 ∙ sym (head-length s))

  -- none is, keys hold, and there is no stray row: good, once the copies' heads are settled
  pub closed : (goal : Goal) (s : State) (ns : List ℕ) → FactNumbers ns (tableau_log (sheet_by goal x) s)
      → (asks goal ≡ true → GivenToList p ns (asked_row p s) → ⊥) → KeysHold p ns → NoStray p ns → HeadsSettled (sheet_by goal x) s → Good (sheet_by goal x) s
  closed Counterexample s ns fn lacks keys clean st =
      good-state p x x r.plan (ready_task p x r Counterexample) s ns fn st keys clean
      (λ l m.
      let (i, lt, e) = list_index l m in
      subst (λ b. Answer (tableau_log x s) b (head_of x s) → ⊥) e
      (list_lacks p x x r.plan (ready_task p x r Counterexample) s ns fn i (saved_list_at x i) (list-shaped i lt) (r.plan.list i lt) (λ g. lacks refl (i, lt, subst (GivenAt p (list_block i) ns) (sym (asked-head s)) g))))
  closed Agreement s ns fn lacks keys clean st = good-state p x (bare x) r.plan (ready_task p x r Agreement) s ns fn st keys clean (λ k m. absurd m)

  pub from-few : (goal : Goal) → from_by goal p ≤ tableau_size p
  from-few Counterexample = omega arith
  from-few Agreement = r.plan.asked

  pub numbers-by : (goal : Goal) (s : State) (ns : List ℕ) (from n : ℕ) → from ≡ from_by goal p → n ≡ tableau_size p - from → ns ≡ tableau_facts p s from n → ns ≡ goal_facts goal p s
  numbers-by goal s ns from n e f g = g ∙ ap (λ k. tableau_facts p s from k) f ∙ ap (λ k. tableau_facts p s k (tableau_size p - k)) e

  pub facts-by : (goal : Goal) (s : State) (ns : List ℕ) (from n : ℕ) → from ≡ from_by goal p → n ≡ tableau_size p - from → ns ≡ tableau_facts p s from n → FactNumbers ns (tableau_log (sheet_by goal x) s)
  facts-by goal s ns from n e f g = subst (λ l. FactNumbers l (tableau_log (sheet_by goal x) s)) (sym (numbers-by goal s ns from n e f g)) (ready-facts p x r goal s)

  -- the facts of a state are few
  pub room_for : (goal : Goal) (s : State) (from : ℕ) (ns : List ℕ) → from ≡ from_by goal p → ns ≡ goal_facts goal p s → from + length ns / 5 ≤ tableau_atoms
  room_for goal s from ns e f =
      let l = ap length f ∙ tableau_length p s (from_by goal p) (tableau_size p - from_by goal p) in
      let few = from-few goal in
      let size = r.plan.few in
      omega arith

-- ---- a stray row, by whether there is one

pub stray-is : (p ns : List ℕ) (b : Bool) (v : ℕ) (u : List ℕ) → b ≡ true → StrayBy b p ns v u → StrayAt p ns v u
stray-is p ns true v u e s = s
stray-is p ns false v u e s = absurd (true≢false (sym e))
