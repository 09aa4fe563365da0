-- What is said of each reason; nothing where too few bytes are lent.
use Rattle.std.proofs.Common.{arith}
use Rattle.sheet_format.specs.Returns.{cause_number}
use Rattle.text_meaning.specs.Numbers.{expected_number}
use Rattle.text_to_sheet.specs.Outcome.{made_from_result}
use Rattle.std.specs.Prelude.{Err}
use Rattle.text_message.proofs.Calls.{silent, expected, refused}
use Rattle.text_message.proofs.message.Goals as goal

pub returns-then-out-lt-TEXT_ROOM : goal.returns-then-out-lt-TEXT_ROOM
returns-then-out-lt-TEXT_ROOM c = silent (made_from_result (Err c.args.reason)) c.args.out.now (omega arith)

pub returns-in-Expected : goal.returns-in-Expected
returns-in-Expected c =
    let p = c.put_expected in
    rw c.in-Expected.is (expected c.args.out.now (omega arith) c.in-Expected.line (expected_number c.in-Expected.what) c.in-Expected.relation p.new.out p.result p.ensures)

pub returns-in-Refused : goal.returns-in-Refused
returns-in-Refused c =
    let p = c.put_refusal in
    rw c.in-Refused.is (refused c.args.out.now (omega arith) (cause_number c.in-Refused.refusal.cause) c.in-Refused.refusal.line c.in-Refused.text_line p.new.out p.result (rw (← c.number.ensures) p.ensures))
