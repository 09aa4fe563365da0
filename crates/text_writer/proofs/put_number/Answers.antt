-- A number that fits a field is a word.
use Rattle.text_writer.proofs.Parts.{no_number}
use Rattle.text_buffer.proofs.Laws.{nothing, said}
use Rattle.text_writer.proofs.put_number.Goals as goal

pub returns : goal.returns
returns c = said (no_number c.if-n.false) (nothing c.args.out.now c.args.at)
