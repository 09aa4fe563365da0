use native.Mathlib.Omega.{arith}
use Rattle.sheet_table.proofs.Rules.{parent-none, parent-high, parent-other, parent-last}
use borrow.Author.Rules.{rules}
use Rattle.sheet_table.proofs.parent_fits.Goals as goal

pub returns-then-parent-eq0 : goal.returns-then-parent-eq0
returns-then-parent-eq0 c = let a = c.args in parent-none a.ns.now a.n a.columns a.parent c.if-parent-eq0.true

pub returns-then-n-parent : goal.returns-then-n-parent
returns-then-n-parent c = let a = c.args in parent-high a.ns.now a.n a.columns a.parent c.if-parent-eq0.false c.if-n-parent.true

pub returns-then-ns-at : goal.returns-then-ns-at
returns-then-ns-at c = let a = c.args in parent-other a.ns.now a.n a.columns a.parent c.if-parent-eq0.false (omega arith) c.if-ns-at.true

pub returns : goal.returns
returns c = let a = c.args in parent-last a.ns.now a.n a.columns a.parent c.if-parent-eq0.false (omega arith) c.if-ns-at.false
