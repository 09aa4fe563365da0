-- The ten have names; beyond them it is a letter and the number.
use mathlib.Core.Path.{◌∙◌}
use Rattle.text_buffer.proofs.Laws.{said, followed}
use Rattle.text_writer.proofs.Parts.{far-relation, name-is}
use Rattle.text_writer.proofs.put_relation.Goals as goal

pub returns-then-relation-gt10 : goal.returns-then-relation-gt10
returns-then-relation-gt10 c = said (far-relation c.args.relation c.if-relation-gt10.true) (followed c.put_byte-n.ensures c.put_number.ensures)

pub returns : goal.returns
returns c = said (c.name.ensures ∙ name-is c.args.relation c.if-relation-gt10.false) c.put.ensures
