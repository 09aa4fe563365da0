-- The loop holds that the lines passed are atoms.
use Rattle.std.proofs.Common.{◌≡◌, ◌+◌, length, drop}
use Rattle.sheet_format.specs.Line.{word_lines}
use Rattle.sheet_format.specs.Cause.{atoms}
use Rattle.query_blocks.specs.Parts.{AcceptedLines}
use Rattle.query_blocks.proofs.atom_count.Given as goal

abbrev pub invariant-loop-j : goal.invariant-loop-j
invariant-loop-j l = AcceptedLines (word_lines l.ws) → length (atoms (drop l.from (word_lines l.ws))) ≡ l.j + length (atoms (drop (l.from + l.j) (word_lines l.ws)))
