-- The loop holds that the copies of the rows passed have them at their heads.
use Rattle.std.proofs.Common.{◌≡◌, length}
use Rattle.tableau_layout.specs.Layout.{slot_end}
use Rattle.case_verdicts.specs.Sheets.{top}
use Rattle.case_verdicts.specs.Words.{state_of}
use Rattle.search_leaf.specs.Leaf.{RowHeads}
use Rattle.search_leaf.proofs.has_rows.Given as goal

abbrev pub invariant-loop-i : goal.invariant-loop-i
invariant-loop-i l = length l.ws ≡ slot_end → RowHeads l.p (state_of top l.ws) l.i
