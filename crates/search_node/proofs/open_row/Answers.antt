use mathlib.Core.Path.{refl, sym, ◌∙◌}
use mathlib.Core.Bool.{true≢false}
use Prim.Native.Nat.{◌+◌, ◌-◌}
use native.Mathlib.Omega.{arith}
use borrow.Author.Rules.{rules}
use borrow.Author.Tests.{not-false}
use Rattle.sheet_format.specs.Limits.{most_lists}
use Rattle.search_node.proofs.Calls.{listed-no}
use Rattle.search_node.proofs.Open.{shown_open}
use Rattle.search_node.proofs.open_row.Goals as goal

pub returns-clause-row_open : goal.returns-clause-row_open
returns-clause-row_open c = let s = c.show-given in
    let a = c.args in
    let low = c.if-b-lt-VIEW_BLOCKS.false in
    let here = c.if-view_count-view.false in λ x r w.
    let many = c.view_count.ensures.exact r.plan.views_few in
    let rows = c.row_count.ensures in
    shown_open a.p.now x r a.goal (a.b - (1 + most_lists)) (omega arith) c.start.result a.b c.start.ensures (omega arith) w.linked w.size
    (s.ensures.row_shown (not-false s.result.ok c.if-not-given.false))
    (listed-no c.is_listed.result a.p.now c.row_count.result (a.b - (1 + most_lists)) s.result.row c.if-is_listed.false (rows.exact r.plan.rows_few) (c.is_listed.ensures rows.limited))
