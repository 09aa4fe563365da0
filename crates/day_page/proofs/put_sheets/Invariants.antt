-- The lines of so many as were passed are put.
use Rattle.std.proofs.Common.{take}
use Rattle.sheet_format.specs.Line.{bytes_of}
use Rattle.text_buffer.specs.Puts.{Put}
use Rattle.judge_ends.specs.Returns.{judgements_at}
use Rattle.day_page.specs.Page.{sheet_lines}
use Rattle.day_page.proofs.put_sheets.Given as goal

abbrev pub invariant-loop-i : goal.invariant-loop-i
invariant-loop-i l = Put l.initial.out l.out 0 (bytes_of (sheet_lines 1 (take l.i (judgements_at l.sheets)))) l.n
