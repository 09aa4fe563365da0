use Rattle.std.proofs.Common.{take}
use Rattle.case_verdicts.specs.Sheets.{top}
use Rattle.search_links.specs.Steps.{Freed}
use Rattle.search_links.proofs.unlink.Given as goal

abbrev pub invariant-loop-v : goal.invariant-loop-v
invariant-loop-v l = Freed top l.initial.ws l.ws (take l.v-index l.u)
