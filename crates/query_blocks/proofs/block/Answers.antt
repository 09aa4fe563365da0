use mathlib.Core.Path.{ap}
use native.Mathlib.Omega.{arith}
use borrow.Author.Rules.{rules}
use Rattle.sheet_format.proofs.WordLines.{lines-length}
use Rattle.sheet_format.specs.Line.{word_lines}
use Rattle.query_encoding.specs.Encoding.{has_block}
use Rattle.query_blocks.proofs.Parts.{found-block, no_block}
use Rattle.query_blocks.proofs.block.Goals as goal

pub returns-then-ws-h : goal.returns-then-ws-h
returns-then-ws-h c = λ t a.
    let n = lines-length c.args.ws.now in
    no_block t (word_lines c.args.ws.now) c.args.k _ _ _ c.nothing-then-ws-h.ensures ((c.head_line-h.ensures.1 (t, a)).nowhere (omega arith))

pub returns : goal.returns
returns c = λ t a.
    let h = c.head_line-h in
    let e = c.entries-numbers.ensures in
    found-block t c.args.ws.now c.args.k h.result c.atom_count.result c.entries-numbers.result a (omega arith) (h.ensures.1 (t, a)) e.0 e.1 (c.atom_count.ensures (t, a))
