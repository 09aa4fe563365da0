-- One byte by the test.
use mathlib.Core.Path.{ap}
use Rattle.text_buffer.proofs.Laws.{said}
use Rattle.test_results.proofs.Spelled.{marked-true, marked-false}
use mathlib.Core.List.{[], ◌∷◌}
use Rattle.test_results.proofs.put_mark.Goals as goal

pub returns-then-holds : goal.returns-then-holds
returns-then-holds c = said (ap (λ b. b ∷ []) (marked-true c.if-holds.true)) c.put_byte.ensures

pub returns : goal.returns
returns c = said (ap (λ b. b ∷ []) (marked-false c.if-holds.false)) c.put_byte-2.ensures
