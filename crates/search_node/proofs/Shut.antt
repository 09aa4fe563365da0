-- A list is given the question's head: no good state obeys the words that show it.
use mathlib.Core.Path.{◌≡◌, refl, sym, ap, ◌∙◌, subst}
use mathlib.Core.Bool.{true}
use mathlib.Core.List.{List, map}
use Prim.Native.Nat.{ℕ, ◌<◌}
use Rattle.tableau_layout.specs.Layout.{list_block}
use Rattle.case_verdicts.specs.Verdict.{Sheet}
use Rattle.case_verdicts.specs.Sheets.{top}
use Rattle.case_verdicts.specs.Tableau.{State, Good}
use Rattle.case_verdicts.specs.Search.{Below}
use Rattle.tableau_plan.specs.Plan.{list_count}
use Rattle.tableau_parts.specs.Views.{GivenAt, GivenToList}
use Rattle.search_task.specs.Task.{ReadyPlan, goal_facts, asked_row}
use Rattle.search_task.specs.declared.Goal.TheVariants.{Counterexample}
use Rattle.search_task.proofs.NodeLaws.{shut}
use Rattle.search_task.proofs.ReadyLaws.{ready-facts}
use Rattle.search_slots.specs.Slots.{in_set}
use Rattle.search_links.specs.Links.{linked_state, value_under}
use Rattle.search_reasons.specs.Reasons.{RestsOn}
use Rattle.search_reasons.proofs.Laws.{obeys-less}
use Rattle.search_witness.specs.Witness.{RowShown, AskedShown}
use Rattle.search_node.proofs.Roots.{obeyed_below}

-- a state is below itself
itself : (t : State) → Below top t t
itself t = record { to = λ v. v; keeps = λ c h. refl; at = λ n. refl }

module _ (p : List ℕ) (x : Sheet) (r : ReadyPlan p x) where
  -- by facts and a head that the words of a set show
  pub shown-shut : {ws row head old mid set : List ℕ} (b i : ℕ) → b ≡ list_block i → i < list_count p → row ≡ head → RowShown p ws 0 b row old mid → AskedShown p ws head mid set
      → RestsOn (Good x) ws set
  shown-shut {ws} {row} {head} {old} {mid} {set} b i e lt same g a = record {
    none = λ t good o.
        let given = g.given t (obeys-less t ws mid set a.more o) in
        (shut p x r t (goal_facts Counterexample p t) (ready-facts p x r Counterexample t) (
          i,
          lt,
          subst (λ k. GivenAt p k (goal_facts Counterexample p t) (asked_row p t)) e
              (subst (GivenAt p b (goal_facts Counterexample p t)) (ap (map (value_under top t)) same ∙ sym (a.row_is t o)) given),
        )
        ).none t (itself t) good;
  }

  -- by the facts of the whole state
  pub walk-shut : (ws set : List ℕ) → ((n : ℕ) → in_set set n ≡ true) → GivenToList p (goal_facts Counterexample p (linked_state top ws)) (asked_row p (linked_state top ws)) → RestsOn (Good x) ws set
  walk-shut ws set full g = record {
    none = λ t good o.
        (shut p x r (linked_state top ws) (goal_facts Counterexample p (linked_state top ws)) (ready-facts p x r Counterexample (linked_state top ws)) g
        ).none t (obeyed_below ws t (λ n. o n (full n))) good;
  }
