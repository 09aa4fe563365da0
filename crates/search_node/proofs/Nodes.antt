-- What a state is found to be, from what calls say of it.
use mathlib.Core.Path.{◌≡◌, sym, subst}
use mathlib.Core.Bool.{Bool, true, false, true≢false}
use mathlib.Core.List.{List}
use Prim.Native.Nat.{ℕ, ◌<◌}
use native.Mathlib.Omega.{arith}
use lib.ListN.{length, get_or}
use Rattle.tableau_layout.specs.Layout.{slot_end}
use Rattle.case_verdicts.specs.Verdict.{Sheet}
use Rattle.case_verdicts.specs.Sheets.{top}
use Rattle.case_verdicts.specs.Tableau.{State, Good}
use Rattle.case_verdicts.specs.Words.{state_of}
use Rattle.tableau_parts.specs.Views.{GivenToList, StrayAt, NoStray}
use Rattle.search_task.specs.Task.{ReadyPlan, asks, sheet_by, goal_facts, asked_row, HeadsSettled}
use Rattle.search_task.specs.declared.Goal.{Goal}
use Rattle.search_task.specs.declared.Goal.TheVariants.{Counterexample, Agreement}
use Rattle.search_task.proofs.NodeLaws.{closed}
use Rattle.search_task.proofs.ReadyLaws.{ready-facts}
use Rattle.search_slots.specs.Slots.{in_set}
use Rattle.search_keys.specs.Keys.{KeyClash, KeysHold, KeysBy}
use Rattle.search_keys.proofs.Laws.{some-clash}
use Rattle.search_links.specs.Links.{linked_state}
use Rattle.search_reasons.specs.Reasons.{RestsOn}
use Rattle.search_node.specs.Node.{Standing, Wordly, StateFound}
use Rattle.search_node.proofs.Roots.{slot-stands, read-state}
use Rattle.search_node.proofs.Shut.{walk-shut}

-- ---- a list is given the head, where the question is asked

pub asked-rests : {x : Sheet} {ws set : List ℕ} (goal : Goal) → asks goal ≡ true → RestsOn (Good x) ws set → RestsOn (Good (sheet_by goal x)) ws set
asked-rests Counterexample e s = s
asked-rests Agreement e s = absurd (true≢false (sym e))

-- ---- the state whose values are read into plain words

module _ (p : List ℕ) (x : Sheet) (r : ReadyPlan p x) {ws : List ℕ} (out : List ℕ) (goal : Goal) (w : Wordly x (sheet_by goal x) ws) (size : length out ≡ slot_end)
    (each : (n : ℕ) → n < slot_end → get_or out n 0 ≡ linked_state top ws n) where
  same : state_of top out ≡ linked_state top ws
  same = read-state ws out w.size size each

  pub read-given : {set : List ℕ} → ((n : ℕ) → in_set set n ≡ true) → asks goal ≡ true → GivenToList p (goal_facts goal p (state_of top out)) (asked_row p (state_of top out))
      → RestsOn (Good (sheet_by goal x)) ws set
  read-given {set} full on given = go goal on (subst (λ (s : State). GivenToList p (goal_facts goal p s) (asked_row p s)) same given)
    where
      go : (g : Goal) → asks g ≡ true → GivenToList p (goal_facts g p (linked_state top ws)) (asked_row p (linked_state top ws)) → RestsOn (Good (sheet_by g x)) ws set
      go Counterexample e k = walk-shut p x r ws set full k
      go Agreement e k = absurd (true≢false (sym e))

  pub read-stray : (v : ℕ) (u : List ℕ) → StrayAt p (goal_facts goal p (state_of top out)) v u → StrayAt p (goal_facts goal p (linked_state top ws)) v u
  read-stray v u s = subst (λ (t : State). StrayAt p (goal_facts goal p t) v u) same s

  pub read-clash : (b : Bool) (i k : ℕ) → b ≡ true → KeysBy b p (goal_facts goal p (state_of top out)) i k → KeyClash p (goal_facts goal p (linked_state top ws)) i k
  read-clash b i k e c = subst (λ (t : State). KeyClash p (goal_facts goal p t) i k) same (some-clash p (goal_facts goal p (state_of top out)) b i k e c)

  pub read-good : (asks goal ≡ true → GivenToList p (goal_facts goal p (state_of top out)) (asked_row p (state_of top out)) → ⊥) → KeysHold p (goal_facts goal p (state_of top out))
      → NoStray p (goal_facts goal p (state_of top out)) → StateFound x (sheet_by goal x) out
  read-good lacks keys none = record {
    good = closed p x r goal (state_of top out) (goal_facts goal p (state_of top out)) (ready-facts p x r goal (state_of top out)) lacks keys none
        (subst (λ (t : State). HeadsSettled (sheet_by goal x) t) (sym same) w.settled);
    size = size;
    stood = λ n h. subst (Standing x) (sym (each n h)) (slot-stands x ws (λ k l. let z = w.size in w.stood k (omega arith)) n h);
  }
