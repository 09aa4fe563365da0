use native.Mathlib.Omega.{arith}
use borrow.Author.Rules.{rules}
use Rattle.sheet_table.proofs.Lines.{LineRead, line_read, not-four, not_taken, taken}
use Rattle.sheet_table.proofs.take_line.Goals as goal

pub returns-then-e-at-ne-TABLE_LINE_BYTES : goal.returns-then-e-at-ne-TABLE_LINE_BYTES
returns-then-e-at-ne-TABLE_LINE_BYTES c = let a = c.args in
    not-four a.s.now a.at a.e a.ns.now a.ns.now a.n (omega arith) (omega arith) c.if-e-at-ne-TABLE_LINE_BYTES.true

pub returns-then-line_fits : goal.returns-then-line_fits
returns-then-line_fits c = taken ((let h1 : (LineRead c.args.s.now c.args.at c.args.e c.args.ns.now c.args.n c.plain_field-columns.result c.plain_field-key.result c.plain_field-parent.result c.line_fits.result) = let a = c.args in line_read a.s.now a.at a.e (omega arith) (omega arith) c.if-e-at-ne-TABLE_LINE_BYTES.false a.ns.now a.n (omega arith) c.plain_field-number.result c.plain_field-columns.result c.plain_field-key.result c.plain_field-parent.result c.plain_field-number.ensures c.plain_field-columns.ensures c.plain_field-key.ensures c.plain_field-parent.ensures c.line_fits.result c.line_fits.ensures in h1)) c.put_relation.new.ns c.if-line_fits.true c.put_relation.ensures

pub returns : goal.returns
returns c = not_taken ((let h2 : (LineRead c.args.s.now c.args.at c.args.e c.args.ns.now c.args.n c.plain_field-columns.result c.plain_field-key.result c.plain_field-parent.result c.line_fits.result) = let a = c.args in line_read a.s.now a.at a.e (omega arith) (omega arith) c.if-e-at-ne-TABLE_LINE_BYTES.false a.ns.now a.n (omega arith) c.plain_field-number.result c.plain_field-columns.result c.plain_field-key.result c.plain_field-parent.result c.plain_field-number.ensures c.plain_field-columns.ensures c.plain_field-key.ensures c.plain_field-parent.ensures c.line_fits.result c.line_fits.ensures in h2)) _ c.if-line_fits.false
