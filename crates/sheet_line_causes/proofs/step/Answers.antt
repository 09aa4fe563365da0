use mathlib.Core.Path.{◌≡◌, refl, ap, ◌∙◌}
use lib.ListN.{length, get_or}
use lib.IntN.{pos}
use Rattle.list_laws.proofs.Words.{word_back}
use Rattle.sheet_format.specs.Cause.{kind_of}
use Rattle.sheet_format.specs.Line.{word_line}
use Rattle.sheet_format.specs.Table.{table_in}
use Rattle.sheet_format.specs.Answers.LineStep.{Goes}
use Rattle.sheet_format.specs.Returns.{cause_in, cause_number, seen_of}
use Rattle.sheet_format.proofs.Endings.{named}
use Rattle.sheet_line_causes.specs.Parts.{CountedFields, fields}
use Rattle.sheet_line_causes.proofs.Lines.{counted, room, step_malformed, step-stops, step-goes}
use borrow.Author.Rules.{rules}
use Rattle.sheet_line_causes.proofs.step.Goals as goal

pub returns-then-n-eq0 : goal.returns-then-n-eq0
returns-then-n-eq0 c = step_malformed (table_in c.args.table.now) (seen_of c.args.g) (word_line c.args.before.now) c.args.l.now c.count-n.result c.count-n.ensures c.if-n-eq0.true

pub line_cause-requires : goal.line_cause-requires
line_cause-requires c = (search rules, counted c.args.l.now c.count-n.result (search rules) c.count-n.ensures c.if-n-eq0.false)

pub returns-in_err-line_cause : goal.returns-in_err-line_cause
returns-in_err-line_cause c = let k = cause_number c.in_err-line_cause.field-0.0 in
    let h = step-stops (table_in c.args.table.now) (seen_of c.args.g) (word_line c.args.before.now) c.args.l.now c.count-n.result (counted c.args.l.now c.count-n.result (search rules) c.count-n.ensures c.if-n-eq0.false) c.count-n.ensures k c.in_err-line_cause.ensures (named c.in_err-line_cause.field-0.0) in search rules

pub next-requires : goal.next-requires
next-requires c = rw (word_back c.args.l.now 1 c.next-arg-1.given) (room (table_in c.args.table.now) (seen_of c.args.g) (word_line c.args.before.now) (kind_of (get_or c.args.l.now 1 (pos 0))) (fields c.count-n.result c.args.l.now) 0 c.in_ok-line_cause.ensures refl)

pub returns : goal.returns
returns c = ap Goes (rw (word_back c.args.l.now 1 c.next-arg-1.given) at c.next.ensures) ∙ step-goes (table_in c.args.table.now) (seen_of c.args.g) (word_line c.args.before.now) c.args.l.now c.count-n.result (counted c.args.l.now c.count-n.result (search rules) c.count-n.ensures c.if-n-eq0.false) c.count-n.ensures 0 c.in_ok-line_cause.ensures refl
