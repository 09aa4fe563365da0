-- A comma stands before each fact but the first.
use Rattle.text_writer.proofs.Parts.{unless_is}
use Rattle.text_buffer.proofs.Laws.{said, followed}
use Rattle.sheet_format.specs.Table.{table_in}
use Rattle.text_writer.specs.Texts.{fact_bytes}
use Rattle.text_facts.proofs.put_next_fact.Goals as goal

pub returns : goal.returns
returns c = said (unless_is (fact_bytes (table_in c.args.table.now) c.args.fact.now) c.if-i-eq0.false) (followed c.put-n.ensures c.put_fact-2.ensures)
