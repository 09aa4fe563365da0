use mathlib.Core.Path.{◌≡◌, sym, ◌∙◌}
use Prim.Native.Nat.{◌≤◌, ◌-◌, ◌+◌}
use native.Mathlib.Omega.{arith}
use borrow.Author.Rules.{rules}
use lib.ListN.{length}
use Rattle.sheet_format.specs.Line.{line_at}
use Rattle.sheet_line_ends.proofs.Laws.{end-inside}
use Rattle.sheet_lines.proofs.FindLaws.{line_from, from_start, from_next, found_none, found-end, found_here}
use Rattle.sheet_lines.specs.Start.{line_start}
use Rattle.sheet_lines.proofs.StartLaws.{start_from, start_first, start-next, start_none, start-end, start-here}
use Rattle.sheet_lines.proofs.find_line.Goals as goal

pub returns-then-e-s : goal.returns-then-e-s
returns-then-e-s c = let l = c.loop-at in
    let a = c.args in
    let here = sym c.line_end-e.ensures ∙ c.if-e-s.true in
    (start_none a.s.now l.at l.k a.number l.invariant.0 here l.invariant.3, found_none a.s.now l.at l.k a.number l.invariant.0 here l.invariant.2)

pub returns-then-k-number : goal.returns-then-k-number
returns-then-k-number c = let l = c.loop-at in
    let a = c.args in
    let r = c.line_end-e in
    let i = c.if-e-s.false in
    let b = end-inside a.s.now l.at r.result l.invariant.0 r.ensures in
    (start-here a.s.now l.at r.result l.k a.number l.invariant.0 r.ensures (omega arith) c.if-k-number.true l.invariant.3, found_here a.s.now l.at r.result l.k a.number l.invariant.0 r.ensures (omega arith) c.if-k-number.true l.invariant.2)

pub overflow_add-at : goal.overflow_add-at
overflow_add-at c = let l = c.loop-at in
    let a = c.args in
    let r = c.line_end-e in
    let i = c.if-e-s.false in
    let b = end-inside a.s.now l.at r.result l.invariant.0 r.ensures in
    omega arith

pub loop-at-preserved : goal.loop-at-preserved
loop-at-preserved c = let l = c.loop-at in
    let a = c.args in
    let r = c.line_end-e in
    let i = c.if-e-s.false in
    let b = end-inside a.s.now l.at r.result l.invariant.0 r.ensures in
    (omega arith, omega arith, from_next a.s.now l.at r.result l.k a.number l.invariant.0 r.ensures (omega arith) c.if-k-number.false l.invariant.2, start-next a.s.now l.at r.result l.k a.number l.invariant.0 r.ensures (omega arith) c.if-k-number.false l.invariant.3)

pub returns : goal.returns
returns c = let l = c.loop-at in
    let a = c.args in
    (start-end a.s.now l.at l.k a.number c.loop-at-test.false l.invariant.3, found-end a.s.now l.at l.k a.number c.loop-at-test.false l.invariant.2)
