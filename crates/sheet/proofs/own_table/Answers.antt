use mathlib.Core.Path.{subst}
use lib.ListN.{length}
use borrow.Author.Rules.{rules}
use Rattle.list_laws.specs.Wrote.{Wrote}
use Rattle.sheet.proofs.Own.{own-short, own-done}
use Rattle.sheet.proofs.own_table.Goals as goal

pub returns-then-out-lt-OWN_TABLE_BYTES : goal.returns-then-out-lt-OWN_TABLE_BYTES
returns-then-out-lt-OWN_TABLE_BYTES c = own-short c.args.out.now c.if-out-lt-OWN_TABLE_BYTES.true

pub returns : goal.returns
returns c = let a = c.args in
    let w = c.copy in
    own-done a.out.now w.new.out c.if-out-lt-OWN_TABLE_BYTES.false (subst (λ bs. Wrote a.out.now w.new.out 0 (length bs) bs) c.own_table-bytes.ensures w.ensures)
