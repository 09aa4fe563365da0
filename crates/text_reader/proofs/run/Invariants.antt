use mathlib.Core.Path.{◌≡◌, refl, ap, ◌∙◌}
use Prim.Native.Nat.{ℕ, ◌-◌}
use native.Mathlib.Omega.{arith}
use borrow.Author.Rules.{rules}
use lib.IntN.{pos}
use lib.ListN.{length, length-replicate}
use Rattle.sheet_format.specs.Limits.{most_lines, most_words}
use Rattle.text_reader.proofs.Going.{Going, going_start, going_some, going_begins, going_word, end-word, going_fails, going_next, going_ends}
use Rattle.text_reader.proofs.run.Given as goal

abbrev pub invariant-loop-at : goal.invariant-loop-at
invariant-loop-at l = Going l.text l.words l.begun l.names l.reached l.at

abbrev pub decreases-loop-at : goal.decreases-loop-at
decreases-loop-at l = length l.text - l.at
