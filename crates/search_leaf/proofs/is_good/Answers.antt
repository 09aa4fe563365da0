-- The copies have their rows at their heads, and the facts show nothing against the state.
use borrow.Author.Tests.{not-false}
use Rattle.case_verdicts.specs.Sheets.{top}
use Rattle.case_verdicts.specs.Words.{state_of}
use Rattle.search_leaf.proofs.Laws.{settled}
use Rattle.search_leaf.proofs.is_good.Goals as goal

pub returns : goal.returns
returns c = λ x r on size.
    c.is_clean.ensures x r on size (c.write_facts-n.ensures.out_after x r size)
    (settled c.args.p.now x r c.args.goal (state_of top c.args.ws.now) (c.has_rows.ensures size r.plan.rows_few (not-false c.has_rows.result c.if-not-has_rows.false-raw)))
