-- The measure is the number of steps that are left. The loop's invariant: the alternative of the turn before i was taken, or none is left; its measure is
-- the number of turns that are left, and 0 at the end.
use Rattle.std.proofs.Common.{◌≡◌, ◌+◌, ◌*◌, ◌-◌, ◌<◌, ◌≤◌, length}
use Prim.Native.Nat.{min}
use Rattle.sheet_format.specs.Limits.{most_rows}
use Rattle.tableau_layout.specs.Layout.{slot_end}
use Rattle.case_verdicts.specs.Verdict.{Sheet}
use Rattle.case_verdicts.specs.Tableau.{Good}
use Rattle.search_slots.specs.Slots.{set_words}
use Rattle.search_nogoods.specs.Sizes.{memory_numbers, memory_words}
use Rattle.search_task.specs.Task.{ReadyPlan, sheet_by}
use Rattle.search_step.specs.Run.{SearchBegun, Advanced}
use Rattle.search_chase.proofs.+seek.Given as goal

abbrev pub decreases-seek : goal.decreases-seek
decreases-seek l = l.left

abbrev pub invariant-loop-i : goal.invariant-loop-i
invariant-loop-i l =
    (length l.ws ≡ slot_end) × (length l.sl ≡ memory_numbers) × (length l.sm ≡ memory_words) × (length l.out ≡ slot_end) × (length l.below ≡ set_words) × (length l.set ≡ set_words)
    × (0 < l.i → l.i ≤ 2 * most_rows)
    × ((x : Sheet) → ReadyPlan l.p x → SearchBegun l.p x (sheet_by l.goal x) l.fn.ws l.left l.fn.set l.node l.fn.sl l.fn.sm → Advanced l.p x (Good (sheet_by l.goal x)) l.fn.ws l.set l.node l.i l.ws l.sl l.sm)

abbrev pub decreases-loop-i : goal.decreases-loop-i
decreases-loop-i l = min (l.i * (2 * most_rows + 1)) (2 * most_rows + 1 - l.i)
