use mathlib.Core.Path.{sym, ◌∙◌}
use mathlib.Core.Logic.{⊎_elim}
use Rattle.search_node.proofs.Choices.{part-inside, right-rows, right-part}
use borrow.Author.Rules.{rules}
use Rattle.search_node.proofs.right_row.Goals as goal

pub returns-then-node-eq-ROWS : goal.returns-then-node-eq-ROWS
returns-then-node-eq-ROWS c = let a = c.args in (λ few lt. c.values_at.ensures few ∙ sym (right-rows a.node.now a.p.now a.k c.if-node-eq-ROWS.true), search rules)

pub returns : goal.returns
returns c = let a = c.args in (
  λ few lt. ⊎_elim c.part_of.ensures.0 c.part_of.ensures.1 (part-inside a.node.now a.p.now a.k lt) ∙ sym (right-part a.node.now a.p.now a.k c.if-node-eq-ROWS.false),
  search rules,
)
