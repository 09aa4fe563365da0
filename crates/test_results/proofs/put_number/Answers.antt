-- The digits, then the byte.
use Rattle.text_buffer.proofs.Laws.{followed}
use Rattle.test_results.proofs.put_number.Goals as goal

pub returns : goal.returns
returns c = followed c.put_decimal-end.ensures c.put_byte.ensures
