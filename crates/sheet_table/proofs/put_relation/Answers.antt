use Rattle.sheet_table.specs.Numbers.{relation_put}
use borrow.Author.Rules.{rules}
use Rattle.sheet_table.proofs.put_relation.Goals as goal

pub returns : goal.returns
unfolding relation_put
returns c = search rules
