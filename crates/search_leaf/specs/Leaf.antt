-- What the contracts of the check cite. No promise to a caller rests on these.
use Rattle.std.specs.Prelude.{◌≡◌, List, ℕ, ◌+◌, ◌*◌, ◌<◌}
use Rattle.query_layout.specs.Layout.{names}
use Rattle.tableau_layout.specs.Layout.{view_block}
use Rattle.query_join.specs.Joins.{head_row}
use Rattle.case_verdicts.specs.Tableau.{State}
use Rattle.tableau_plan.specs.Plan.{block_numbers, row_at, row_values}

-- the head of listed row i's copy under a state, in numbers
abbrev pub row_head : List ℕ → State → ℕ → List ℕ
row_head p s i = head_row (λ z. s ((i + 1) * names + z)) (block_numbers p (view_block (row_at p i 0)))

-- the heads of the first n listed rows' copies are the rows
pub record RowHeads (p : List ℕ) (s : State) (n : ℕ) : Type 0 where
  pub each : (i : ℕ) → i < n → row_head p s i ≡ row_values p i
