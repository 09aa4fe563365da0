use mathlib.Core.Path.{refl}
use Rattle.std.specs.Prelude.{Ok, Err}
use Rattle.sheet_format.specs.Returns.{ending_of}
use Rattle.sheet_format.proofs.Endings.{named}
use Rattle.sheet_table.specs.Loads.{loaded_of}
use borrow.Author.Rules.{rules}
use Rattle.sheet.proofs.ByTable.{read-sent-back, read_taken}
use Rattle.sheet.proofs.read_by_table.Goals as goal

pub returns-in_err-loaded : goal.returns-in_err-loaded
returns-in_err-loaded c = let r = c.in_err-loaded.field-0.0 in
    let a = c.args in
    let h = read-sent-back a.table.now (loaded_of (Err r)) c.in_err-loaded.ensures (named r.cause) a.sheet.now a.out.now in search rules

pub returns : goal.returns
returns c = let r = c.read in
    let a = c.args in
    read_taken a.table.now (loaded_of (Ok c.in_ok-loaded.loaded)) c.in_ok-loaded.ensures refl a.sheet.now a.out.now (ending_of r.result) r.new.out r.ensures
