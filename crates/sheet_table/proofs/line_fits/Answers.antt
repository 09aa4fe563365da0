use mathlib.Core.Path.{◌∙◌}
use native.Mathlib.Omega.{arith}
use Rattle.sheet_table.proofs.Rules.{other-number, no-columns, many-columns, wide_key, parent-left}
use borrow.Author.Rules.{rules}
use Rattle.sheet_table.proofs.line_fits.Goals as goal

pub returns-then-number-n : goal.returns-then-number-n
returns-then-number-n c = let a = c.args in other-number a.ns.now a.n a.number a.columns a.key a.parent c.if-number-n.true

pub returns-then-columns-lt1 : goal.returns-then-columns-lt1
returns-then-columns-lt1 c = let a = c.args in no-columns a.ns.now a.n a.number a.columns a.key a.parent c.if-number-n.false c.if-columns-lt1.true

pub returns-then-columns-gt-MOST_COLUMNS : goal.returns-then-columns-gt-MOST_COLUMNS
returns-then-columns-gt-MOST_COLUMNS c = let a = c.args in many-columns a.ns.now a.n a.number a.columns a.key a.parent c.if-number-n.false (omega arith) c.if-columns-gt-MOST_COLUMNS.true

pub returns-then-columns-key : goal.returns-then-columns-key
returns-then-columns-key c = let a = c.args in wide_key a.ns.now a.n a.number a.columns a.key a.parent c.if-number-n.false (omega arith) (omega arith) c.if-columns-key.true

pub returns : goal.returns
returns c = let a = c.args in c.parent_fits.ensures ∙ parent-left a.ns.now a.n a.number a.columns a.key a.parent c.if-number-n.false (omega arith) (omega arith) (omega arith)
