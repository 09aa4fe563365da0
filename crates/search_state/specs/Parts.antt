-- The numbers of a state's facts. No promise to a caller rests on these.
use Rattle.std.specs.Prelude.{cond, List, ℕ, ◌%◌, eqb, get_or}
use Rattle.case_verdicts.specs.Tableau.{State}
use Rattle.tableau_plan.specs.Plan.{slot_value}

-- number x of the tableau under a state: relations stand at multiples of five
abbrev pub number_under : List ℕ → State → ℕ → ℕ
number_under p s x = cond (eqb (x % 5) 0) (get_or p x 0) (slot_value s (get_or p x 0))
