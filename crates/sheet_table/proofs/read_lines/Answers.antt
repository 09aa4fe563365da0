use mathlib.Core.Path.{sym, ◌∙◌}
use Prim.Native.Nat.{◌+◌, ◌-◌}
use native.Mathlib.Omega.{arith}
use lib.ListN.{length}
use borrow.Author.Tests.{not-true, not-false}
use Rattle.sheet_line_ends.proofs.Laws.{end-inside}
use Rattle.sheet_table.proofs.Reading.{Reading, reading-none, too_many, unclosed, LineTaken, wrong_line, right-line, empty, read_done, read-refused}
use Rattle.sheet_table.proofs.read_lines.Goals as goal

pub loop-at-init : goal.loop-at-init
loop-at-init c = reading-none c.args.s.now c.args.ns.now c.requires

pub returns-then-n-eq-MOST_RELATIONS : goal.returns-then-n-eq-MOST_RELATIONS
returns-then-n-eq-MOST_RELATIONS c = let l = c.loop-at in
    let s = c.args.s.now in
    read-refused s l.ns (l.n + 1) (too_many s l.ns l.n l.at l.invariant c.if-n-eq-MOST_RELATIONS.true c.loop-at-test.true)

pub returns-then-e-s : goal.returns-then-e-s
returns-then-e-s c = let l = c.loop-at in
    let s = c.args.s.now in
    read-refused s l.ns (l.n + 1) (unclosed s l.ns l.n l.at l.invariant c.loop-at-test.true (sym c.line_end-e.ensures ∙ c.if-e-s.true))

pub take_line-requires : goal.take_line-requires
take_line-requires c = let l = c.loop-at in
    let s = c.args.s.now in
    let e = c.line_end-e in
    let i = end-inside s l.at e.result l.invariant.inside e.ensures in
    let f = l.invariant.few in
    let h = c.if-n-eq-MOST_RELATIONS.false in
    (i.0, i.1, omega arith)

pub returns-then-not-take_line : goal.returns-then-not-take_line
returns-then-not-take_line c = let t = (let h2 : (LineTaken c.args.s.now c.loop-at.ns c.take_line.new.ns c.loop-at.n c.loop-at.at c.line_end-e.result c.take_line.result) = let l = c.loop-at in let s = c.args.s.now in let e = c.line_end-e in let i = end-inside s l.at e.result l.invariant.inside e.ensures in let h = c.if-e-s.false in let f = l.invariant.few in let g = c.if-n-eq-MOST_RELATIONS.false in record { so_far = l.invariant; room = omega arith; end = e.ensures; from = i.0; closed = omega arith; line = c.take_line.ensures } in h2) in read-refused _ _ _ (wrong_line t (not-true c.take_line.result c.if-not-take_line.true-raw))

pub overflow_add-at : goal.overflow_add-at
overflow_add-at c = let t = (let h4 : (LineTaken c.args.s.now c.loop-at.ns c.take_line.new.ns c.loop-at.n c.loop-at.at c.line_end-e.result c.take_line.result) = let l = c.loop-at in let s = c.args.s.now in let e = c.line_end-e in let i = end-inside s l.at e.result l.invariant.inside e.ensures in let h = c.if-e-s.false in let f = l.invariant.few in let g = c.if-n-eq-MOST_RELATIONS.false in record { so_far = l.invariant; room = omega arith; end = e.ensures; from = i.0; closed = omega arith; line = c.take_line.ensures } in h4) in let f = t.closed in omega arith

pub loop-at-preserved : goal.loop-at-preserved
loop-at-preserved c = right-line ((let h6 : (LineTaken c.args.s.now c.loop-at.ns c.take_line.new.ns c.loop-at.n c.loop-at.at c.line_end-e.result c.take_line.result) = let l = c.loop-at in let s = c.args.s.now in let e = c.line_end-e in let i = end-inside s l.at e.result l.invariant.inside e.ensures in let h = c.if-e-s.false in let f = l.invariant.few in let g = c.if-n-eq-MOST_RELATIONS.false in record { so_far = l.invariant; room = omega arith; end = e.ensures; from = i.0; closed = omega arith; line = c.take_line.ensures } in h6)) (not-false c.take_line.result c.if-not-take_line.false-raw)

pub returns-then-n-eq0 : goal.returns-then-n-eq0
returns-then-n-eq0 c = let l = c.loop-at in
    let s = c.args.s.now in
    read-refused s l.ns 0 (empty s l.ns l.n l.at l.invariant (omega arith) c.if-n-eq0.true)

pub returns : goal.returns
returns c = let l = c.loop-at in
    let s = c.args.s.now in
    read_done s l.ns l.n l.at l.invariant (omega arith) c.if-n-eq0.false
