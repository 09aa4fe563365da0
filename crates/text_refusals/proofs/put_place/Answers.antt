-- One part after the other.
use borrow.Author.Rules.{rules}
use Rattle.text_buffer.proofs.Laws.{followed}
use Rattle.text_writer.specs.Texts.{place_bytes}
use Rattle.text_refusals.proofs.put_place.Goals as goal

pub returns : goal.returns
unfolding place_bytes
returns c = let a = followed (followed c.put_after-a.ensures c.put_after-b.ensures) c.put_after-c.ensures in
    followed a c.put_after_one.ensures
