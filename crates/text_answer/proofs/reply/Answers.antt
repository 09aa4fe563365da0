-- What is said of the sheet that was given, of the sheet that a text has, and of a text without one.
use Rattle.std.proofs.Common.{arith, refl, sym, ◌∙◌, ap}
use Rattle.sheet_table.specs.Tables.{table_of}
use Rattle.std.specs.Prelude.{Ok}
use Rattle.sheet_table.specs.Loads.{loaded_of}
use Rattle.text_to_sheet.specs.Outcome.{made_from_result}
use Rattle.text_answer.proofs.Calls.{sheet-fits, judged, not_made, made_by}
use Rattle.text_answer.proofs.reply.Goals as goal

pub slice_bounds-verdict-end : goal.slice_bounds-verdict-end
slice_bounds-verdict-end c = let f = sheet-fits c.in-Ok.n c.sheet_by_numbers.ensures (ap made_from_result c.in-Ok.is) in omega arith

pub returns-in-Ok : goal.returns-in-Ok
returns-in-Ok c = λ tb h z.
    let a = c.args in
    let m = c.sheet_by_numbers in
    let v = c.verdict-in-Ok in
    judged (table_of tb) a.given.now (sym c.is_text.ensures ∙ c.if-not-is_text.false) (made_by tb (loaded_of (Ok a.table.now)) h z m.ensures) refl a.out.now v.new.out v.result c.in-Ok.n (ap made_from_result c.in-Ok.is) (v.ensures tb h z)

pub returns-in-Err : goal.returns-in-Err
returns-in-Err c = λ tb h z.
    let a = c.args in
    let m = c.sheet_by_numbers in
    let v = c.message in
    not_made (table_of tb) a.given.now (sym c.is_text.ensures ∙ c.if-not-is_text.false) (made_by tb (loaded_of (Ok a.table.now)) h z m.ensures) refl a.out.now v.new.out v.result c.in-Err.reason (ap made_from_result c.in-Err.is) v.ensures
