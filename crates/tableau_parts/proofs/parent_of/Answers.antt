use mathlib.Core.Path.{ap, ◌∙◌}
use native.Mathlib.Omega.{arith}
use lib.ListN.{drop, length-drop}
use lib.Seq.{take_all}
use Rattle.sheet_format.specs.Limits.{table_number_count}
use Rattle.sheet_format.specs.Table.{relation, table_in}
use Rattle.tableau_layout.specs.Layout.{table_at}
use Rattle.tableau_parts.proofs.parent_of.Goals as goal

pub returns : goal.returns
returns c = let a = c.args in
    let d = length-drop table_at a.p.now in
    let e = ap (λ l. (relation (table_in l) a.number).parent) (take_all table_number_count (drop table_at a.p.now) (omega arith)) in
    c.parent.ensures ∙ e
