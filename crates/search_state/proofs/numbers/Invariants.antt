use Rattle.std.proofs.Common.{◌≡◌, ℕ, ◌+◌, ◌<◌, get_or}
use Rattle.case_verdicts.specs.Sheets.{top}
use Rattle.case_verdicts.specs.Words.{state_of}
use Rattle.search_state.specs.Parts.{number_under}
use Rattle.search_state.proofs.numbers.Given as goal

abbrev pub invariant-loop-x : goal.invariant-loop-x
invariant-loop-x l = (y : ℕ) → y < l.x → get_or l.out y 0 ≡ number_under l.p (state_of top l.st) (l.from + y)
