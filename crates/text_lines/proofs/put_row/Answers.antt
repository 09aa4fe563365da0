-- The values, and what the next line asks for.
use Rattle.text_writer.proofs.Parts.{where_is, unless_is}
use Rattle.text_buffer.proofs.Laws.{said, followed, nothing}
use Rattle.text_buffer.specs.Words.{bytes}
use mathlib.Core.List.{[]}
use Rattle.text_lines.proofs.put_row.Goals as goal

pub returns-then-next-eq-ROW_KIND : goal.returns-then-next-eq-ROW_KIND
returns-then-next-eq-ROW_KIND c = followed (followed c.put_byte-n.ensures c.put_values-m.ensures) (said (where_is [] c.if-next-eq-ROW_KIND.true) c.put_byte.ensures)

pub returns : goal.returns
returns c = let n = said (unless_is (bytes ";") c.if-next-eq-ROW_KIND.false) (nothing c.put_values-m.new.out c.put_values-m.result) in
    followed (followed c.put_byte-n.ensures c.put_values-m.ensures) n
