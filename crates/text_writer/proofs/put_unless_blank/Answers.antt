-- A blank is left out, any other byte is put.
use Rattle.text_writer.proofs.Parts.{blank-gone, byte-kept}
use Rattle.text_buffer.proofs.Laws.{nothing, said}
use Rattle.text_writer.proofs.put_unless_blank.Goals as goal

pub returns-then-b-eq32 : goal.returns-then-b-eq32
returns-then-b-eq32 c = said (blank-gone c.if-b-eq32.true) (nothing c.args.out.now c.args.at)

pub returns : goal.returns
returns c = said (byte-kept c.if-b-eq32.false) c.put_byte.ensures
