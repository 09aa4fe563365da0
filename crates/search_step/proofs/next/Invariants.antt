-- The loop holds where the search stands with the node after the turns passed.
use Rattle.std.proofs.Common.{◌≡◌, length}
use Rattle.case_verdicts.specs.Verdict.{Sheet}
use Rattle.case_verdicts.specs.Tableau.{Good}
use Rattle.search_task.specs.Task.{ReadyPlan, sheet_by}
use Rattle.search_task.specs.declared.Goal.{Goal}
use Rattle.search_node.specs.Node.{Wordly}
use Rattle.search_step.specs.Run.{Going}
use Rattle.search_step.proofs.next.Given as goal

abbrev pub invariant-loop-i : goal.invariant-loop-i
invariant-loop-i l = (length l.ws ≡ length l.initial.ws) × (length l.set ≡ length l.initial.set)
    × ((x : Sheet) → ReadyPlan l.p x → (goal : Goal) → Wordly x (sheet_by goal x) l.initial.ws → Going l.p x (Good (sheet_by goal x)) l.initial.ws l.initial.ws l.initial.set l.node l.from l.below l.last l.sl l.sm
    → Going l.p x (Good (sheet_by goal x)) l.initial.ws l.ws l.set l.node l.i l.below l.last l.sl l.sm)
