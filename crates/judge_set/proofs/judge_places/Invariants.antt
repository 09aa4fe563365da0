-- So many places as were passed are judged.
use Rattle.std.proofs.Common.{◌≡◌, List, ℕ, length}
use Rattle.sheet_table.specs.Loads.{Loads, loaded_of}
use Rattle.judge_result.specs.Judged.{JudgedBy}
use Rattle.judge_ends.specs.Sets.{JudgedTo}
use Rattle.judge_ends.specs.Returns.{judgements_at}
use Rattle.judge_set.proofs.judge_places.Given as goal

abbrev pub invariant-loop-place : goal.invariant-loop-place
invariant-loop-place l = (length l.out ≡ length l.initial.out) × ((tb : List ℕ) → Loads tb (loaded_of l.table) → JudgedTo (JudgedBy tb) l.place l.bytes l.ends l.initial.out l.out (judgements_at l.sheets))
