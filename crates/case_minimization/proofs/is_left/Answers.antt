use Rattle.std.proofs.Common.{is_some}
use Rattle.query_rows.specs.Rows.{row_values}
use Rattle.case_minimization.proofs.Laws.{left_by}
use Rattle.case_minimization.proofs.is_left.Goals as goal

pub returns : goal.returns
returns c =
    λ ready clean owes.
    left_by (is_some c.missing.result) c.args.p.now c.args.facts.now (row_values c.missing.result)
    (c.if-not-all_given.ensures ready) clean owes (c.missing.ensures ready)
