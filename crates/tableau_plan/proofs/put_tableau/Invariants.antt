use Prim.Native.Nat.{◌≤◌, ◌+◌}
use mathlib.Core.List.{List}
use Rattle.sheet_format.specs.Table.{table_in}
use Rattle.tableau_layout.specs.Layout.{rows_at, tableau_atoms}
use Rattle.query_meaning.specs.Meaning.{Block}
use Rattle.tableau_plan.specs.Parts.{KeptOutside, Sources, TableauDone}
use Rattle.tableau_plan.proofs.put_tableau.Given as goal

abbrev pub invariant-loop-copy : goal.invariant-loop-copy
invariant-loop-copy l = (l.copy ≤ l.n + 1) × (l.at ≤ tableau_atoms) × KeptOutside l.initial.p l.p 0 rows_at × ((bs : List Block) → Sources (table_in l.table) l.initial.p l.n bs → TableauDone (table_in l.table) l.initial.p 1 l.asked bs → TableauDone (table_in l.table) l.p l.copy l.at bs)
