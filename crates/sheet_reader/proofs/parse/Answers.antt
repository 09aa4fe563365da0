use mathlib.Core.Path.{sym, ap, ◌∙◌, subst}
use Prim.Native.Nat.{◌-◌, ◌+◌, ◌*◌}
use native.Mathlib.Omega.{arith}
use lib.ListN.{length, get_or, drop}
use Rattle.sheet_line_ends.specs.Before.{before_end}
use Rattle.list_laws.specs.Wrote.{Wrote}
use Rattle.sheet_reader.proofs.ParseLaws.{Parsing, parsing_none, parsing_more, parsed_long, parsed_all, parsed_open, parsed_broken, no-count}
use Rattle.sheet_line_ends.proofs.Laws.{end-inside}
use Rattle.sheet_format.specs.Line.{line_of}
use lib.ListN.{take}
use lib.IntN.{pos}
use mir.Syntax.{w32}
use mir.Val.{to_z}
use mir.ValLaws.{to_z-of_z}
use Rattle.sheet_reader.proofs.parse.Goals as goal

pub loop-at-init : goal.loop-at-init
loop-at-init c = parsing_none c.args.s.now c.args.ws.now (omega arith)

pub returns-then-n-eq-LINES : goal.returns-then-n-eq-LINES
returns-then-n-eq-LINES c = parsed_long c.args.s.now c.loop-at.ws c.loop-at.n c.loop-at.at c.if-n-eq-LINES.true c.loop-at.invariant

pub returns-then-e-s : goal.returns-then-e-s
returns-then-e-s c = let l = c.loop-at in
    let f = l.invariant.few in
    let i = c.if-n-eq-LINES.false in
    parsed_open c.args.s.now l.ws c.put_line.new.ws l.n l.at l.invariant (omega arith) c.loop-at-test.true (sym c.line_end-e.ensures ∙ c.if-e-s.true) c.put_line.ensures

pub line_words-l-requires : goal.line_words-l-requires
line_words-l-requires c = end-inside c.args.s.now c.loop-at.at c.line_end-e.result c.loop-at.invariant.inside c.line_end-e.ensures

pub returns-then-l-eq0 : goal.returns-then-l-eq0
returns-then-l-eq0 c = let l = c.loop-at in
    let s = c.args.s.now in
    let e = c.line_end-e.result in
    let f = l.invariant.few in
    let i = c.if-n-eq-LINES.false in
    let j = c.if-e-s.false in
    let k = end-inside s l.at e l.invariant.inside c.line_end-e.ensures in
    let t = line_of (take (e - l.at) (drop l.at s)) in
    let ws = c.put_line-in-loop-at.new.ws in
    let w = subst (λ x. Wrote l.ws ws (l.n * 7) (l.n * 7 + 7) x) c.line_words-l.ensures c.put_line-in-loop-at.ensures in
    parsed_broken s l.ws ws l.n l.at e l.invariant (omega arith) c.line_end-e.ensures (omega arith) (no-count t (sym (ap (λ x. get_or x 0 (pos 0)) c.line_words-l.ensures) ∙ sym (to_z-of_z w32 (get_or c.line_words-l.result 0 (pos 0)) (record { sfits = c.t19-1.given })) ∙ ap (to_z w32) c.if-l-eq0.true)) w

pub overflow_add-at : goal.overflow_add-at
overflow_add-at c = let l = c.loop-at in
    let s = c.args.s.now in
    let e = c.line_end-e.result in
    let f = l.invariant.few in
    let i = c.if-n-eq-LINES.false in
    let j = c.if-e-s.false in
    let k = end-inside s l.at e l.invariant.inside c.line_end-e.ensures in
    omega arith

pub loop-at-preserved : goal.loop-at-preserved
loop-at-preserved c = let l = c.loop-at in
    let s = c.args.s.now in
    let e = c.line_end-e.result in
    let f = l.invariant.few in
    let i = c.if-n-eq-LINES.false in
    let j = c.if-e-s.false in
    let k = end-inside s l.at e l.invariant.inside c.line_end-e.ensures in
    let t = line_of (take (e - l.at) (drop l.at s)) in
    let ws = c.put_line-in-loop-at.new.ws in
    let w = subst (λ x. Wrote l.ws ws (l.n * 7) (l.n * 7 + 7) x) c.line_words-l.ensures c.put_line-in-loop-at.ensures in
    parsing_more s l.ws ws l.n l.at e l.invariant (omega arith) c.line_end-e.ensures (omega arith) w

pub returns : goal.returns
returns c = parsed_all c.args.s.now c.loop-at.ws c.loop-at.n c.loop-at.at c.loop-at-test.false c.loop-at.invariant
