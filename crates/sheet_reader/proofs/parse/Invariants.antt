use mathlib.Core.Path.{sym, ap, ◌∙◌, subst}
use Prim.Native.Nat.{◌-◌, ◌+◌, ◌*◌}
use native.Mathlib.Omega.{arith}
use lib.ListN.{length, get_or, drop}
use Rattle.sheet_line_ends.specs.Before.{before_end}
use Rattle.list_laws.specs.Wrote.{Wrote}
use Rattle.sheet_reader.proofs.ParseLaws.{Parsing, parsing_none, parsing_more, parsed_long, parsed_all, parsed_open, parsed_broken, no-count}
use Rattle.sheet_line_ends.proofs.Laws.{end-inside}
use Rattle.sheet_format.specs.Line.{line_of}
use lib.ListN.{take}
use lib.IntN.{pos}
use mir.Syntax.{w32}
use mir.Val.{to_z}
use mir.ValLaws.{to_z-of_z}
use Rattle.sheet_reader.proofs.parse.Given as goal

abbrev pub invariant-loop-at : goal.invariant-loop-at
invariant-loop-at l = Parsing l.s l.ws l.n l.at

abbrev pub decreases-loop-at : goal.decreases-loop-at
decreases-loop-at l = length l.s - l.at
