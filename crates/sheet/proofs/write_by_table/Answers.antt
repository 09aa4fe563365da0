use mathlib.Core.Path.{refl}
use Rattle.std.specs.Prelude.{Ok, Err}
use Rattle.sheet_format.specs.Returns.{ending_of}
use Rattle.sheet_format.proofs.Endings.{named}
use Rattle.sheet_table.specs.Loads.{loaded_of}
use borrow.Author.Rules.{rules}
use Rattle.sheet.proofs.ByTable.{write_sent_back, write_taken}
use Rattle.sheet.proofs.write_by_table.Goals as goal

pub returns-in_err-known : goal.returns-in_err-known
returns-in_err-known c = let r = c.in_err-known.field-0.0 in
    let a = c.args in
    let h = write_sent_back a.table.now (loaded_of (Err r)) c.in_err-known.ensures (named r.cause) a.words.now a.out.now in search rules

pub returns : goal.returns
returns c = let r = c.write in
    let a = c.args in
    write_taken a.table.now (loaded_of (Ok c.in_ok-known.known)) c.in_ok-known.ensures refl a.words.now a.out.now (ending_of r.result) r.new.out r.ensures
