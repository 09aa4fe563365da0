-- The loop holds that the heads of the copies of the rows passed are the rows.
use mathlib.Core.Path.{◌≡◌}
use Rattle.case_verdicts.specs.Sheets.{top}
use Rattle.case_verdicts.specs.Search.{free}
use Rattle.case_verdicts.specs.Verdict.{Sheet}
use Rattle.case_verdicts.specs.Words.{state_of}
use Rattle.search_task.specs.Task.{ReadyPlan, sheet_by}
use Rattle.search_task.specs.declared.Goal.{Goal}
use Rattle.search_step.specs.Run.{Heads}
use Rattle.search_step.proofs.settle.Given as goal

abbrev pub invariant-loop-i : goal.invariant-loop-i
invariant-loop-i l = (x : Sheet) → ReadyPlan l.p x → (goal : Goal) → state_of top l.initial.ws ≡ free top → Heads x (sheet_by goal x) l.ws l.i
