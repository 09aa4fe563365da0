use mathlib.Core.Path.{◌≡◌, refl, sym, ap, ◌∙◌}
use Prim.Native.Nat.{◌<◌, ◌-◌}
use native.Mathlib.Omega.{arith}
use borrow.Author.Rules.{rules}
use mir.Syntax.{w32}
use mir.Val.{to_z}
use lib.ListN.{length, drop}
use mathlib.Core.Bool.{false}
use borrow.Author.Tests.{not-true, not-false}
use Rattle.sheet_format.proofs.WordLines.{lines-length}
use Rattle.list_laws.proofs.Words.{back}
use Rattle.sheet_format.specs.Line.{null, word_line, word_lines}
use Rattle.sheet_format.specs.Cause.{kind, is_atom, occurs, terms, atoms}
use Rattle.sheet_causes.proofs.Laws.{formed-at, has, has_stop, has_here, has_on, has_end}
use Rattle.sheet_causes.proofs.in_atoms.Goals as goal

pub is_atom-requires : goal.is_atom-requires
is_atom-requires c = (let h1 : (null (word_line c.line_at-l.result) ≡ false) = ap null c.line_at-l.ensures ∙ formed-at c.requires c.loop-j.j ((let h2 : (c.loop-j.j < length (word_lines c.args.ws.now)) = let n = lines-length c.args.ws.now in omega arith in h2)) in h1)

pub returns-then-not-is_atom : goal.returns-then-not-is_atom
returns-then-not-is_atom c = let l = c.loop-j in
    let e = ap (λ l. is_atom (kind l)) (sym c.line_at-l.ensures) ∙ sym c.is_atom.ensures ∙ not-true _ c.if-not-is_atom.true-raw in
    sym (has_stop c.args.z (word_lines c.args.ws.now) l.j ((let h3 : (c.loop-j.j < length (word_lines c.args.ws.now)) = let n = lines-length c.args.ws.now in omega arith in h3)) e) ∙ (rw (back c.ranges.z) at l.invariant)

pub returns-then-occurs_in : goal.returns-then-occurs_in
returns-then-occurs_in c = let l = c.loop-j in
    let e = ap (λ l. is_atom (kind l)) (sym c.line_at-l.ensures) ∙ sym c.is_atom.ensures ∙ not-false _ c.if-not-is_atom.false-raw in
    let f = ap (λ l. occurs c.args.z (terms l)) (sym c.line_at-l.ensures) ∙ (rw (back c.ranges.z) at (sym c.occurs_in.ensures)) ∙ c.if-occurs_in.true in
    sym (has_here c.args.z (word_lines c.args.ws.now) l.j ((let h6 : (c.loop-j.j < length (word_lines c.args.ws.now)) = let n = lines-length c.args.ws.now in omega arith in h6)) e f) ∙ (rw (back c.ranges.z) at l.invariant)

pub loop-j-preserved : goal.loop-j-preserved
loop-j-preserved c = let l = c.loop-j in
    let e = ap (λ l. is_atom (kind l)) (sym c.line_at-l.ensures) ∙ sym c.is_atom.ensures ∙ not-false _ c.if-not-is_atom.false-raw in
    let f = ap (λ l. occurs c.args.z (terms l)) (sym c.line_at-l.ensures) ∙ (rw (back c.ranges.z) at (sym c.occurs_in.ensures)) ∙ c.if-occurs_in.false in
    rw (back c.ranges.z) (has_on c.args.z (word_lines c.args.ws.now) l.j ((let h7 : (c.loop-j.j < length (word_lines c.args.ws.now)) = let n = lines-length c.args.ws.now in omega arith in h7)) e f ∙ (rw (back c.ranges.z) at l.invariant))

pub returns : goal.returns
returns c = let l = c.loop-j in
    let n = lines-length c.args.ws.now in
    sym (has_end c.args.z (word_lines c.args.ws.now) l.j (omega arith)) ∙ (rw (back c.ranges.z) at l.invariant)
