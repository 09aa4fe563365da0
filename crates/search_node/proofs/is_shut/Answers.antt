use mathlib.Core.Path.{refl, sym, ◌∙◌}
use mathlib.Core.Bool.{true≢false}
use Prim.Native.Nat.{◌-◌}
use native.Mathlib.Omega.{arith}
use borrow.Author.Rules.{rules}
use borrow.Author.Tests.{not-false}
use Rattle.search_node.proofs.Calls.{same-yes}
use Rattle.search_node.proofs.Shut.{shown-shut}
use Rattle.search_node.proofs.is_shut.Goals as goal

pub returns-clause-rests_on : goal.returns-clause-rests_on
returns-clause-rests_on c = let k = c.asked-asked in
    let s = c.show-given in
    let a = c.args in
    let low = c.if-b-lt-LIST_BLOCKS.false in
    let here = c.if-list_count-list.false in λ x r e.
    let few = c.list_count.ensures.exact r.plan.lists_few in
    shown-shut a.p.now x r a.b (a.b - 1) (omega arith) (omega arith) (same-yes c.same.result s.result.row k.result.row e c.same.ensures)
    (s.ensures.row_shown (not-false s.result.ok c.if-not-given.false)) (k.ensures.asked_shown (not-false k.result.ok c.if-not-asked.false))
