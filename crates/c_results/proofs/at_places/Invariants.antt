-- Each place that was passed holds the judgement's numbers.
use Rattle.std.proofs.Common.{◌≡◌, ℕ, ◌<◌, List, [], length, get_or}
use Rattle.judge_result.specs.Answers.{Judgement}
use Rattle.judge_ends.specs.Sets.{most_sheets}
use Rattle.c_results.specs.Passed.{judgement_of}
use Rattle.c_results.specs.declared.Outcome.{Outcome}
use Rattle.judge_ends.specs.Returns.{judgements_at}
use Rattle.c_results.proofs.at_places.Given as goal

abbrev pub blank : Outcome
blank = record { verdict = 0; number = 0; line = 0; count = 0; missing = [] }

abbrev pub PassedAt : List Outcome → List Judgement → ℕ → Type 0
PassedAt all js i = judgement_of (get_or all i blank) ≡ get_or js i (judgement_of blank)

abbrev pub invariant-loop-k : goal.invariant-loop-k
invariant-loop-k l = (length l.places ≡ most_sheets) × (length l.all ≡ most_sheets) × ((i : ℕ) → i < l.k → PassedAt l.all (judgements_at l.places) i)
