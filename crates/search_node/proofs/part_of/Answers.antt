use mathlib.Core.Path.{sym}
use mathlib.Core.Bool.{true≢false}
use native.Mathlib.Omega.{arith}
use Rattle.search_node.proofs.Choices.{part-each, part-whole}
use borrow.Author.Rules.{rules}
use Rattle.search_node.proofs.part_of.Goals as goal

pub returns-then-node-ne-EACH : goal.returns-then-node-ne-EACH
returns-then-node-ne-EACH c = let a = c.args in let e = c.if-node-ne-EACH.true in (λ lt. sym (part-whole a.node.now a.at a.k e), λ off. sym (part-whole a.node.now a.at a.k e))

pub returns-then-k-lt-COLUMNS : goal.returns-then-k-lt-COLUMNS
returns-then-k-lt-COLUMNS c = let a = c.args in let e = c.if-node-ne-EACH.false in (λ lt. sym (part-each a.node.now a.at a.k e), λ off. absurd (off e))
