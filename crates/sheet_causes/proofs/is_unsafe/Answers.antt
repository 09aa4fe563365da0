-- `causes::is_unsafe` meets its contract.
use mathlib.Core.Path.{◌≡◌, sym, ap, ◌∙◌}
use Prim.Native.Nat.{◌+◌}
use native.Mathlib.Omega.{arith}
use mathlib.Core.Bool.{true, false, not}
use mathlib.Core.List.{[]}
use lib.ListN.{get_or}
use borrow.Author.Tests.{not-true, not-false}
use Rattle.sheet_format.proofs.WordLines.{lines-length}
use Rattle.sheet_format.specs.Line.{null, word_line, word_lines}
use Rattle.sheet_format.specs.Cause.{kind, is_head, is_atom}
use Rattle.sheet_causes.proofs.Laws.{formed-at, no-head, no_line, no-atom, by-terms}
use borrow.Author.Rules.{rules}
use Rattle.sheet_causes.proofs.is_unsafe.Goals as goal

pub is_head-requires : goal.is_head-requires
is_head-requires c = (let h1 : (null (word_line c.line_at-l.result) ≡ false) = let n = lines-length c.args.ws.now in ap null c.line_at-l.ensures ∙ formed-at c.requires.formed_lines c.args.i (omega arith) in h1)

pub returns-then-ws-i : goal.returns-then-ws-i
returns-then-ws-i c = let n = lines-length c.args.ws.now in
    no_line (word_lines c.args.ws.now) c.args.i ((let h2 : (is_head (kind (get_or (word_lines c.args.ws.now) c.args.i [])) ≡ true) = ap (λ l. is_head (kind l)) (sym c.line_at-l.ensures) ∙ sym c.is_head.ensures ∙ not-false _ c.if-not-is_head.false-raw in h2)) (omega arith)

pub is_atom-requires : goal.is_atom-requires
is_atom-requires c = let n = lines-length c.args.ws.now in
    ap null c.line_at-a.ensures ∙ formed-at c.requires.formed_lines (c.args.i + 1) (omega arith)

pub returns-then-not-is_atom : goal.returns-then-not-is_atom
returns-then-not-is_atom c = let n = lines-length c.args.ws.now in
    no-atom (word_lines c.args.ws.now) c.args.i ((let h3 : (is_head (kind (get_or (word_lines c.args.ws.now) c.args.i [])) ≡ true) = ap (λ l. is_head (kind l)) (sym c.line_at-l.ensures) ∙ sym c.is_head.ensures ∙ not-false _ c.if-not-is_head.false-raw in h3)) (omega arith)
    (ap (λ l. is_atom (kind l)) (sym c.line_at-a.ensures) ∙ sym c.is_atom.ensures ∙ not-true _ c.if-not-is_atom.true-raw)

pub returns : goal.returns
returns c = let n = lines-length c.args.ws.now in
    ap not c.all_bound.ensures
    ∙ by-terms (word_lines c.args.ws.now) c.args.i ((let h4 : (is_head (kind (get_or (word_lines c.args.ws.now) c.args.i [])) ≡ true) = ap (λ l. is_head (kind l)) (sym c.line_at-l.ensures) ∙ sym c.is_head.ensures ∙ not-false _ c.if-not-is_head.false-raw in h4)) (omega arith)
    (ap (λ l. is_atom (kind l)) (sym c.line_at-a.ensures) ∙ sym c.is_atom.ensures ∙ not-false _ c.if-not-is_atom.false-raw)
