use Rattle.search_node.proofs.Choices.{hint_rows, hint_none}
use borrow.Author.Rules.{rules}
use Rattle.search_node.proofs.hint_of.Goals as goal

pub returns-then-node-eq-ROWS : goal.returns-then-node-eq-ROWS
returns-then-node-eq-ROWS c = hint_rows c.args.node.now c.if-node-eq-ROWS.true

pub returns : goal.returns
returns c = hint_none c.args.node.now c.if-node-eq-ROWS.false
