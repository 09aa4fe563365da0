use mathlib.Core.Path.{◌≡◌, refl, sym, ap, ◌∙◌, subst}
use Rattle.std.specs.Prelude.{Ok, Err}
use borrow.Author.Rules.{rules}
use Rattle.sheet_format.proofs.Endings.{named}
use Rattle.sheet_table.specs.Loads.{Loads, loaded_of}
use Rattle.text_to_sheet.proofs.Calls.{table-refused, table_taken}
use Rattle.text_to_sheet.proofs.sheet_of_by_table.Goals as goal

pub returns-in-Ok : goal.returns-in-Ok
returns-in-Ok c = let made = c.sheet_by_numbers in
    let a = c.args in
    table_taken a.table.now (loaded_of (Ok c.in-Ok.numbers)) (subst (λ t. Loads a.table.now (loaded_of t)) c.in-Ok.is c.load.ensures) a.text.now a.out.now refl made.new.out _ made.ensures

pub returns-in-Err : goal.returns-in-Err
returns-in-Err c = let a = c.args in
    table-refused a.table.now (loaded_of (Err c.in-Err.refusal)) (subst (λ t. Loads a.table.now (loaded_of t)) c.in-Err.is c.load.ensures) a.text.now a.out.now (named c.in-Err.refusal.cause)
