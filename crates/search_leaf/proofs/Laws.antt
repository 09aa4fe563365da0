-- A state whose copies have their rows' heads is settled, and good where its facts show nothing against it.
use mathlib.Core.Path.{◌≡◌, refl, sym, ap, ◌∙◌, subst}
use mathlib.Core.Bool.{Bool, true, not, true≢false}
use Rattle.std.specs.Prelude.{Option, Some, None, is_some}
use mathlib.Core.List.{List}
use Prim.Native.Nat.{ℕ, zero, suc, ◌+◌, ◌<◌}
use native.Mathlib.Omega.{arith}
use Rattle.query_meaning.specs.Meaning.{row}
use Rattle.query_meaning.specs.Blocks.{nth}
use Rattle.query_encoding.specs.Encoding.{FactNumbers}
use Rattle.query_encoding.proofs.Order.{pad_same}
use Rattle.case_verdicts.specs.Verdict.{Sheet}
use Rattle.case_verdicts.specs.Tableau.{State, jobs, copy, tableau_log, Meets, Good}
use Rattle.tableau_plan.specs.Plan.{row_at, row_values, row_count}
use Rattle.tableau_parts.specs.Views.{GivenToList, NoStray}
use Rattle.search_keys.specs.Keys.{KeysHold}
use Rattle.search_task.specs.Task.{ReadyPlan, asks, sheet_by, goal_facts, HeadsSettled, asked_row}
use Rattle.search_task.proofs.ReadyLaws.{jobs-count, ready-facts}
use Rattle.search_task.proofs.Copies.{copy-small, first-met, head-long, head-numbers, row-met}
use Rattle.search_task.proofs.NodeLaws.{closed}
use Rattle.search_task.specs.declared.Goal.{Goal}
use Rattle.search_violation.specs.Parts.{StrayIn}
use Rattle.search_violation.specs.declared.Stray.{Stray}
use Rattle.search_leaf.specs.Leaf.{row_head, RowHeads}

pub none-stray : (p ns : List ℕ) (found : Option Stray) (b : Bool) → b ≡ true → is_some found ≡ not b → StrayIn p ns found → NoStray p ns
none-stray p ns None b on e s = s
none-stray p ns (Some v) b on e s = absurd (true≢false (e ∙ ap not on))

module _ (p : List ℕ) (x : Sheet) (r : ReadyPlan p x) (goal : Goal) (s : State) where
  -- a head in numbers is the row
  head-is : (i : ℕ) (lt : i < row_count p) → row_head p s i ≡ row_values p i → row (copy s (suc i)) (nth x.views (row_at p i 0)).block.head ≡ (r.plan.rows i lt).row
  head-is i lt e = pad_same _ _ (head-long p x r i lt s) (sym (head-numbers p x r i lt s (i + 1) _ (omega arith) refl) ∙ e ∙ (r.plan.rows i lt).values)

  pub settled : RowHeads p s (row_count p) → HeadsSettled (sheet_by goal x) s
  settled h c m = go c.number refl
    where
      go : (k : ℕ) → c.number ≡ k → Meets (copy s c.number) c.job
      go zero e = first-met p x r goal s c m e
      go (suc i) e =
          let lt : i < row_count p = (let few = copy-small (jobs (sheet_by goal x)) c m in let count = jobs-count p x r goal in omega arith) in
          row-met p x r i lt goal s (head-is i lt (h.each i lt)) c m e

  -- no list is given the head, where it is asked, keys hold, and there is no stray row
  pub good : (ns : List ℕ) → ns ≡ goal_facts goal p s → (asks goal ≡ true → GivenToList p ns (asked_row p s) → ⊥) → KeysHold p ns → NoStray p ns
      → HeadsSettled (sheet_by goal x) s → Good (sheet_by goal x) s
  good ns e lacks keys none = closed p x r goal s ns (subst (λ l. FactNumbers l (tableau_log (sheet_by goal x) s)) (sym e) (ready-facts p x r goal s)) lacks keys none
