-- One part after the other.
use borrow.Author.Rules.{rules}
use Rattle.text_buffer.proofs.Laws.{followed}
use Rattle.text_writer.specs.Texts.{length_bytes}
use Rattle.text_words.proofs.put_length.Goals as goal

pub returns : goal.returns
unfolding length_bytes
returns c = followed (followed c.put-a.ensures c.put_number-b.ensures) c.put.ensures
