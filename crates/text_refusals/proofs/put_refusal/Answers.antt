-- One part after the other.
use borrow.Author.Rules.{rules}
use Rattle.text_buffer.proofs.Laws.{followed, said}
use Rattle.text_writer.specs.Texts.{refusal_bytes}
use Rattle.text_refusals.proofs.put_refusal.Goals as goal

pub returns : goal.returns
unfolding refusal_bytes
returns c = let a = followed (followed c.put-a.ensures c.put_place-b.ensures) c.put-c.ensures in
    followed (followed a (said c.cause_text.ensures c.put-d.ensures)) c.put_byte.ensures
