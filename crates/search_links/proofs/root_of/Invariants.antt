use mathlib.Core.Path.{◌≡◌}
use Rattle.case_verdicts.specs.Sheets.{top}
use Rattle.case_verdicts.specs.Words.{state_of}
use Rattle.search_links.specs.Links.{root}
use Rattle.search_links.proofs.root_of.Given as goal

abbrev pub invariant-loop-x : goal.invariant-loop-x
invariant-loop-x l = root top (state_of top l.ws) l.x ≡ root top (state_of top l.ws) l.v

abbrev pub decreases-loop-x : goal.decreases-loop-x
decreases-loop-x l = l.x
