-- The count of the columns and the name.
use borrow.Author.Rules.{rules}
use Rattle.text_writer.proofs.Parts.{no-columns, some-columns}
use Rattle.text_buffer.proofs.Laws.{nothing, said, followed}
use Rattle.text_words.proofs.put_columns.Goals as goal

pub returns-then-relation-gt10 : goal.returns-then-relation-gt10
returns-then-relation-gt10 c = said (no-columns c.if-relation-gt10.true) (nothing c.args.out.now c.args.at)

pub returns : goal.returns
returns c = said (some-columns c.own_table-table.ensures c.if-relation-gt10.false c.columns-columns.ensures) (followed (said c.count.ensures c.put-n.ensures) c.put_relation.ensures)
