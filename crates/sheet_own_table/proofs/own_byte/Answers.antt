use mathlib.Core.Path.{sym, ap, ◌∙◌}
use Prim.Native.Nat.{◌%◌}
use native.Mathlib.Omega.{arith}
use lib.ListN.{get_or}
use borrow.Author.Rules.{rules}
use Rattle.list_laws.proofs.Words.{to_pos}
use Rattle.sheet_format.specs.Field.{field_bytes}
use Rattle.sheet_own_table.proofs.Bytes.{own-field-byte, own-end-byte}
use Rattle.sheet_own_table.proofs.own_byte.Goals as goal

pub returns-then-k-eq-LINE_END : goal.returns-then-k-eq-LINE_END
returns-then-k-eq-LINE_END c = sym (own-end-byte c.args.i (omega arith) c.if-k-eq-LINE_END.true)

pub returns : goal.returns
returns c = let a = c.args in
    let r = c.own_field in
    let h = r.ensures.1 in
    let n = c.if-k-eq-LINE_END.false in
    ap (λ x. get_or x (a.i % 33 % 8) 0) (c.field_bytes-b.ensures ∙ ap field_bytes (to_pos r.result (omega arith) ∙ r.ensures.0))
    ∙ sym (own-field-byte a.i (omega arith) (omega arith))
