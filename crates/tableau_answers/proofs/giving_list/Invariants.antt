-- `tableau_answers::giving_list` meets its contract. The loop's invariant: none of the lists before i is given the row. The measure is what is
use mathlib.Core.Path.{◌≡◌, subst}
use Prim.Native.Nat.{ℕ, ◌≤◌, ◌<◌, ◌-◌}
use native.Mathlib.Omega.{arith}
use borrow.Author.Count.{below_more}
use borrow.Author.Rules.{rules}
use Rattle.tableau_layout.specs.Layout.{list_block}
use Rattle.tableau_parts.specs.Views.{GivenAt}
use Rattle.tableau_parts.specs.Walks.{FormedPlan, GivesAtBy}
use Rattle.tableau_answers.proofs.giving_list.Given as goal

abbrev pub invariant-loop-i : goal.invariant-loop-i
invariant-loop-i l = (l.i ≤ l.lists) × (FormedPlan l.p → (k : ℕ) → k < l.i → GivenAt l.p (list_block k) l.facts l.row → ⊥)
