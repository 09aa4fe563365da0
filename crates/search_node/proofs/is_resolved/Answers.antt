use mathlib.Core.Path.{sym, ◌∙◌}
use mathlib.Core.Bool.{true≢false}
use borrow.Author.Rules.{rules}
use borrow.Author.Tests.{not-false}
use Rattle.search_task.specs.Task.{sheet_by}
use Rattle.search_node.proofs.is_resolved.Goals as goal

pub returns-clause-state_found : goal.returns-clause-state_found
returns-clause-state_found c = let k = c.is_good in
    let s = c.take_values in
    let a = c.args in
    let same = s.ensures.out_len_unchanged in λ x r w whole e. record {
      good = k.ensures x r e (same ∙ whole);
      size = same ∙ whole;
      stood = s.ensures.standing x (sheet_by a.goal x) r w whole (not-false s.result c.if-not-take_values.false-raw);
    }
