use borrow.Author.Tests.{le-leb, lt-leb}
use Rattle.text_meaning.specs.Places.{columns_in}
use Rattle.text_meaning.proofs.Tests.{so}
use Rattle.text_places.proofs.Laws.{named-columns}
use Rattle.text_places.proofs.columns.Goals as goal

pub returns-then-relation-le-NAMED_RELATIONS : goal.returns-then-relation-le-NAMED_RELATIONS
unfolding columns_in
returns-then-relation-le-NAMED_RELATIONS c = so _ (le-leb _ _ c.if-relation-le-NAMED_RELATIONS.true) (named-columns c.own_table-table.ensures c.if-relation-le-NAMED_RELATIONS.true c.columns.ensures)

pub returns : goal.returns
unfolding columns_in
returns c = rw (lt-leb _ _ c.if-relation-le-NAMED_RELATIONS.false)
