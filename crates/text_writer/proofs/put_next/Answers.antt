-- A comma stands before each term but the first.
use mathlib.Core.Path.{ap}
use Rattle.text_writer.proofs.Parts.{unless_is}
use Rattle.text_buffer.proofs.Laws.{said, followed}
use Rattle.list_laws.proofs.Words.{back}
use Rattle.text_writer.specs.Texts.{term_bytes}
use Rattle.text_writer.proofs.put_next.Goals as goal

pub returns : goal.returns
returns c = let w = c.args.w in
    let t = said (ap term_bytes (back c.ranges.w)) c.put_term-2.ensures in
    said (unless_is (term_bytes w) c.if-i-eq0.false) (followed c.put_byte-n.ensures t)
