-- The line, and the end of the text's line before a head or nothing.
use Rattle.text_writer.proofs.Parts.{where_below, unless_below}
use Rattle.text_buffer.proofs.Laws.{said, followed, nothing}
use Rattle.text_writer.specs.Texts.{line_text}
use Rattle.text_buffer.specs.Words.{bytes}
use mathlib.Core.List.{[]}
use Rattle.text_lines.proofs.put_line.Goals as goal

pub returns-then-next-lt-ATOM_KIND : goal.returns-then-next-lt-ATOM_KIND
unfolding line_text
returns-then-next-lt-ATOM_KIND c = followed c.put_kind-n.ensures (said (where_below [] c.if-next-lt-ATOM_KIND.true) c.put_byte.ensures)

pub returns : goal.returns
unfolding line_text
returns c = followed c.put_kind-n.ensures (said (unless_below (bytes "\n") c.if-next-lt-ATOM_KIND.false) (nothing c.put_kind-n.new.out c.put_kind-n.result))
