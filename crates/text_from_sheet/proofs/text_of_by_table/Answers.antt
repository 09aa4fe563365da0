use mathlib.Core.Path.{refl}
use Rattle.std.specs.Prelude.{Ok, Err}
use borrow.Author.Rules.{rules}
use Rattle.sheet_format.specs.Returns.{ending_of}
use Rattle.sheet_format.proofs.Endings.{named}
use Rattle.sheet_table.specs.Loads.{loaded_of}
use Rattle.text_from_sheet.proofs.Calls.{table-refused, table_taken}
use Rattle.text_from_sheet.proofs.text_of_by_table.Goals as goal

pub returns-in_err-loaded : goal.returns-in_err-loaded
returns-in_err-loaded c = let r = c.in_err-loaded.field-0.0 in
    let a = c.args in
    let h = table-refused a.table.now (loaded_of (Err r)) c.in_err-loaded.ensures a.sheet.now a.out.now (named r.cause) in search rules

pub returns : goal.returns
returns c = let shown = c.text_by_numbers in
    let a = c.args in
    table_taken a.table.now (loaded_of (Ok c.in_ok-loaded.loaded)) c.in_ok-loaded.ensures a.sheet.now a.out.now refl shown.new.out (ending_of shown.result) shown.ensures
