use mathlib.Core.Path.{ap, ◌∙◌}
use mathlib.Core.Logic.{⊎_elim}
use Rattle.search_node.specs.Choices.{left_at}
use Rattle.search_node.proofs.Choices.{part-inside}
use borrow.Author.Rules.{rules}
use Rattle.search_node.proofs.left_row.Goals as goal

pub returns : goal.returns
returns c = let a = c.args in (λ p lt. ⊎_elim c.part_of.ensures.0 c.part_of.ensures.1 (part-inside a.node.now p a.k lt), search rules)
