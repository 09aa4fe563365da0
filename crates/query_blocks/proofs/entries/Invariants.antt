-- The loop holds that the numbers passed are put.
use Rattle.std.proofs.Common.{◌≡◌, ℕ, ◌<◌, length, get_or}
use Rattle.query_layout.specs.Layout.{block_width}
use Rattle.query_blocks.specs.Parts.{entry_of}
use Rattle.query_blocks.proofs.entries.Given as goal

abbrev pub invariant-loop-x : goal.invariant-loop-x
invariant-loop-x l = (length l.numbers ≡ block_width) × ((y : ℕ) → y < l.x → get_or l.numbers y 0 ≡ entry_of l.ws l.h y)
