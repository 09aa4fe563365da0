use Rattle.std.proofs.Common.{◌≡◌, ℕ, ◌+◌, ◌<◌, get_or}
use Rattle.case_verdicts.specs.Sheets.{top}
use Rattle.search_links.proofs.free.Given as goal

abbrev pub invariant-loop-n : goal.invariant-loop-n
invariant-loop-n l = (y : ℕ) → y < l.n → get_or l.ws y 0 ≡ top + y
