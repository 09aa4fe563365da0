-- The digits are those of a tenth and the last.
use Rattle.std.proofs.Common.{arith}
use Rattle.text_buffer.proofs.Laws.{followed, said}
use Rattle.test_results.proofs.Spelled.{decimal-one, decimal-more}
use Rattle.test_results.proofs.+put_decimal.Goals as goal

pub returns-then-n-lt10 : goal.returns-then-n-lt10
returns-then-n-lt10 t c = said (decimal-one c.args.n (omega arith)) c.put_byte.ensures

pub returns : goal.returns
returns t c = said (decimal-more c.args.n (omega arith)) (followed c.put_decimal-end.ensures c.put_byte-2.ensures)
