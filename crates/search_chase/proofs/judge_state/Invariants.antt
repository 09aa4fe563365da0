use mathlib.Core.Path.{◌≡◌}
use lib.ListN.{length}
use Rattle.case_verdicts.specs.Verdict.{Sheet}
use Rattle.case_verdicts.specs.Tableau.{Good}
use Rattle.search_task.specs.Task.{ReadyPlan, sheet_by}
use Rattle.search_node.specs.Node.{Wordly}
use Rattle.search_step.specs.Run.{Remembers}
use Rattle.search_chase.proofs.judge_state.Given as goal

abbrev pub invariant-loop : goal.invariant-loop
invariant-loop l = (length l.ws ≡ length l.initial.ws) × (length l.sl ≡ length l.initial.sl) × (length l.sm ≡ length l.initial.sm) × (length l.set ≡ length l.initial.set) × (length l.out ≡ length l.initial.out)
    × ((x : Sheet) → ReadyPlan l.p x → Wordly x (sheet_by l.goal x) l.initial.ws → Remembers (Good (sheet_by l.goal x)) l.initial.ws l.initial.sl l.initial.sm → (l.ws ≡ l.initial.ws) × Remembers (Good (sheet_by l.goal x)) l.initial.ws l.sl l.sm)
