-- The words that were read are those of the lines of the sheet, and their text is put.
use Rattle.std.proofs.Common.{refl, sym, ◌∙◌, arith, rules}
use Rattle.sheet_format.specs.Answers.Ending.{Refused}
use Rattle.sheet_format.specs.Returns.{cause_number}
use Rattle.sheet_format.specs.Table.{table_in}
use Rattle.sheet.proofs.Calls.{few-lines}
use Rattle.text_from_sheet.proofs.Calls.{sent_back, short, shown}
use Rattle.text_from_sheet.proofs.text_by_numbers.Goals as goal

pub returns-then-out-lt-TEXT_ROOM : goal.returns-then-out-lt-TEXT_ROOM
returns-then-out-lt-TEXT_ROOM c =
    let a = c.args in short a.table.now a.sheet.now a.out.now c.in_ok-lines.lines (sym c.in_ok-lines.ensures.0) (omega arith)

pub overflow_mul-lines : goal.overflow_mul-lines
overflow_mul-lines c =
    let f = few-lines (table_in c.args.table.now) c.args.sheet.now c.in_ok-lines.lines (sym c.in_ok-lines.ensures.0) in
    let k = c.read.auto.out in
    omega arith

pub slice_bounds-put_lines-end : goal.slice_bounds-put_lines-end
slice_bounds-put_lines-end c =
    let f = few-lines (table_in c.args.table.now) c.args.sheet.now c.in_ok-lines.lines (sym c.in_ok-lines.ensures.0) in
    let k = c.read.auto.out in
    omega arith

pub returns-in_err-lines : goal.returns-in_err-lines
returns-in_err-lines c =
    let a = c.args in
    let r = c.in_err-lines.field-0.0 in
    let h = sent_back a.table.now a.sheet.now a.out.now (cause_number r.cause) r.line (Refused (cause_number r.cause) r.line) c.in_err-lines.ensures.0 refl in search rules

pub returns : goal.returns
returns c =
    let rd = c.read in
    let a = c.args in
    let p = c.put_lines-n in
    shown a.table.now a.sheet.now a.out.now c.in_ok-lines.lines (sym c.in_ok-lines.ensures.0) _ rd.new.out refl rd.ensures.1 (omega arith) p.new.out p.result p.ensures
