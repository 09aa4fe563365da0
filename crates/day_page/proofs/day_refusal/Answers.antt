use Rattle.std.proofs.Common.{refl, rules}
use Rattle.sheet_format.specs.Returns.{cause_number}
use Rattle.sheet_format.proofs.Endings.{named}
use Rattle.day_page.proofs.Refusal.{by-set, by_page, by-none}
use Rattle.day_page.proofs.day_refusal.Goals as goal

pub returns-in_err-set_refusal : goal.returns-in_err-set_refusal
returns-in_err-set_refusal c = let a = c.args in
    let r = c.in_err-set_refusal.field-0.0 in
    let h = by-set a.bytes.now a.ends.now a.out.now a.page.now (cause_number r) c.in_err-set_refusal.ensures (named r) in search rules

pub returns-then-page-lt-PAGE_ROOM : goal.returns-then-page-lt-PAGE_ROOM
returns-then-page-lt-PAGE_ROOM c = let a = c.args in
    by_page a.bytes.now a.ends.now a.out.now a.page.now 0 c.in_ok-set_refusal.ensures refl c.if-page-lt-PAGE_ROOM.true

pub returns : goal.returns
returns c = let a = c.args in
    by-none a.bytes.now a.ends.now a.out.now a.page.now 0 c.in_ok-set_refusal.ensures refl c.if-page-lt-PAGE_ROOM.false
