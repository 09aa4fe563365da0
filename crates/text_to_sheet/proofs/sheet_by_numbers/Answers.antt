use mathlib.Core.Path.{refl, ap}
use Rattle.sheet_format.specs.Returns.{cause_number, ending_of}
use Rattle.sheet_format.specs.Table.{table_in}
use Rattle.text_meaning.proofs.Numbers.{expected-some}
use Rattle.text_to_sheet.proofs.Calls.{too_long, expected-made, many-made, sheet-made, refused-made}
use Rattle.text_to_sheet.proofs.sheet_by_numbers.Goals as goal

pub returns-then-text-gt-MOST_TEXT : goal.returns-then-text-gt-MOST_TEXT
returns-then-text-gt-MOST_TEXT c = too_long c.if-text-gt-MOST_TEXT.true

pub returns-in-Err : goal.returns-in-Err
returns-in-Err c = let a = c.args in
    expected-made (table_in a.table.now) a.text.now a.out.now c.if-text-gt-MOST_TEXT.false c.in-Err.ensures (expected-some c.in-Err.misfit.what)

pub returns-then-lines-gt-MOST_LINES : goal.returns-then-lines-gt-MOST_LINES
returns-then-lines-gt-MOST_LINES c = let a = c.args in
    many-made (table_in a.table.now) a.text.now a.out.now c.if-text-gt-MOST_TEXT.false c.in-Ok.ensures refl c.if-lines-gt-MOST_LINES.true

pub returns-in-Ok-write : goal.returns-in-Ok-write
returns-in-Ok-write c = let w = c.write in
    let a = c.args in
    sheet-made (table_in a.table.now) a.text.now a.out.now c.if-text-gt-MOST_TEXT.false c.in-Ok.ensures refl c.if-lines-gt-MOST_LINES.false w.new.out (ending_of w.result) w.ensures.0 w.ensures.1 c.in-Ok-write.n (ap ending_of c.in-Ok-write.is)

pub returns-in-Err-write : goal.returns-in-Err-write
returns-in-Err-write c = let w = c.write in
    let a = c.args in
    let r = c.in-Err-write.refusal in
    refused-made (table_in a.table.now) a.text.now a.out.now c.if-text-gt-MOST_TEXT.false c.in-Ok.ensures refl c.if-lines-gt-MOST_LINES.false w.new.out (ending_of w.result) w.ensures.0 w.ensures.1 (cause_number r.cause) r.line c.text_line.result (ap ending_of c.in-Err-write.is) c.text_line.ensures
