-- What is put and what the lines that are left give is the whole text.
use lib.ListN.{drop}
use Rattle.sheet_format.specs.Table.{table_in}
use Rattle.text_writer.specs.Texts.{lines_from}
use Rattle.text_lines.proofs.Written.{LinesWritten}
use Rattle.text_lines.proofs.put_lines.Given as goal

abbrev pub invariant-loop-i : goal.invariant-loop-i
invariant-loop-i l = LinesWritten (table_in l.table) l.initial.out l.out l.n l.block (drop l.i l.lines) (lines_from (table_in l.table) 0 l.lines)
