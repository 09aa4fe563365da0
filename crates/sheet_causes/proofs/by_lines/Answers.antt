use mathlib.Core.Path.{◌≡◌, refl, sym, ap, ◌∙◌}
use Prim.Native.Nat.{◌<◌, ◌-◌, ◌+◌}
use native.Mathlib.Omega.{arith}
use borrow.Author.Rules.{rules}
use borrow.Author.Tests.{ltb-true, ltb-false}
use mathlib.Core.List.{[]}
use lib.ListN.{length, get_or, drop}
use Rattle.sheet_format.proofs.WordLines.{lines-length}
use Rattle.sheet_format.specs.Answers.LineStep.{Goes, Stops}
use Rattle.sheet_format.specs.Line.{word_line, word_lines}
use Rattle.sheet_format.specs.Returns.{cause_number, seen_of}
use Rattle.sheet_format.specs.Table.{table_in}
use Rattle.sheet_format.specs.Cause.{scan, start, step_of}
use Rattle.sheet_causes.proofs.Laws.{scan-stops, scan-goes, scan-end, missing-few, missing-none}
use Rattle.sheet_causes.proofs.by_lines.Goals as goal

pub loop-i-init : goal.loop-i-init
unfolding word_line
loop-i-init c = let e = c.default-g.ensures in rw (e.0, e.1.0, e.1.1.0, e.1.1.1.0, e.1.1.1.1.0, e.1.1.1.1.1.0, e.1.1.1.1.1.1.0, e.1.1.1.1.1.1.1) refl

pub returns-in-Err : goal.returns-in-Err
returns-in-Err c = let l = c.loop-i in
    scan-stops (table_in c.args.table.now) (word_lines c.args.ws.now) l.i (seen_of l.g) (word_line l.before) _ (let n = lines-length c.args.ws.now in omega arith)
    (let h : Stops (cause_number c.in-Err.cause) ≡ step_of (table_in c.args.table.now) (seen_of l.g) (word_line l.before) (word_line c.line_at-l.result) = c.in-Err.ensures in sym (h ∙ ap (step_of (table_in c.args.table.now) (seen_of c.loop-i.g) (word_line c.loop-i.before)) c.line_at-l.ensures)) ∙ l.invariant

pub loop-i-preserved : goal.loop-i-preserved
loop-i-preserved c = let l = c.loop-i in
    rw c.line_at-l.ensures
    (scan-goes (table_in c.args.table.now) (word_lines c.args.ws.now) l.i (seen_of l.g) (word_line l.before) (seen_of c.in-Ok.next) (let n = lines-length c.args.ws.now in omega arith)
    (let h : Goes (seen_of c.in-Ok.next) ≡ step_of (table_in c.args.table.now) (seen_of l.g) (word_line l.before) (word_line c.line_at-l.result) = c.in-Ok.ensures in sym (h ∙ ap (step_of (table_in c.args.table.now) (seen_of c.loop-i.g) (word_line c.loop-i.before)) c.line_at-l.ensures)) ∙ l.invariant)

pub returns-then-lacks_lists : goal.returns-then-lacks_lists
returns-then-lacks_lists c = let l = c.loop-i in
    let n = lines-length c.args.ws.now in
    missing-few (seen_of l.g) (ltb-true _ _ (sym c.lacks_lists.ensures ∙ c.if-lacks_lists.true)) ∙ scan-end (table_in c.args.table.now) (word_lines c.args.ws.now) l.i (seen_of l.g) (word_line l.before) (omega arith) ∙ l.invariant

pub returns : goal.returns
returns c = let l = c.loop-i in
    let n = lines-length c.args.ws.now in
    missing-none (seen_of l.g) (ltb-false _ _ (sym c.lacks_lists.ensures ∙ c.if-lacks_lists.false)) ∙ scan-end (table_in c.args.table.now) (word_lines c.args.ws.now) l.i (seen_of l.g) (word_line l.before) (omega arith) ∙ l.invariant
