use native.Mathlib.Omega.{arith}
use Rattle.case_verdicts.specs.Sheets.{top}
use Rattle.case_verdicts.proofs.Words.{words-free}
use Rattle.search_links.proofs.free.Goals as goal

pub returns-clause-ws_after : goal.returns-clause-ws_after
returns-clause-ws_after c = λ few. words-free top c.loop-n.ws (λ i h. c.loop-n.invariant i (omega arith))
