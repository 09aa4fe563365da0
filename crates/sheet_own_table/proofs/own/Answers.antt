use borrow.Author.Rules.{rules}
use Rattle.sheet_own_table.proofs.Means.{own_loads}
use Rattle.sheet_own_table.proofs.own.Goals as goal

pub returns : goal.returns
returns c = own_loads c.own_table.result c.own_table.ensures
