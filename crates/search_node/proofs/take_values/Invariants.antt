-- The loop holds that the values written stand.
use Rattle.std.proofs.Common.{◌≡◌, ℕ, ◌<◌, length, get_or}
use Rattle.tableau_layout.specs.Layout.{slot_end}
use Rattle.case_verdicts.specs.Verdict.{Sheet}
use Rattle.search_task.specs.Task.{ReadyPlan}
use Rattle.search_node.specs.Node.{Standing, Wordly}
use Rattle.search_node.proofs.take_values.Given as goal

abbrev pub invariant-loop-n : goal.invariant-loop-n
invariant-loop-n l = record { long : length l.out ≡ slot_end; stood : (x y : Sheet) → ReadyPlan l.p x → Wordly x y l.ws → (k : ℕ) → k < l.n → Standing x (get_or l.out k 0) }
