use mathlib.Core.Path.{◌≡◌, sym, ap, ◌∙◌}
use mathlib.Core.List.{[]}
use Prim.Native.Nat.{◌+◌, ◌-◌, ◌*◌, ◌≤◌, ◌<◌}
use native.Mathlib.Omega.{arith}
use borrow.Author.Rules.{rules}
use borrow.Author.Tests.{not-true, not-false}
use lib.ListN.{length, get_or, drop}
use Rattle.sheet_format.specs.Limits.{most_atoms}
use Rattle.list_laws.proofs.Words.{word_back}
use Rattle.sheet_format.proofs.WordLines.{lines-length}
use Rattle.sheet_format.specs.Line.{word_lines}
use Rattle.sheet_format.specs.Cause.{kind, is_atom, atoms}
use Rattle.query_blocks.specs.Parts.{AcceptedLines}
use Rattle.query_blocks.proofs.Parts.{kind_is, count-start, count-on, no-atom, past-atoms}
use Rattle.query_blocks.proofs.atom_count.Goals as goal

pub returns-then-n-i : goal.returns-then-n-i
returns-then-n-i c = λ a few.
    let w = c.args.ws.now in
    let l = c.loop-j in
    let n = lines-length w in
    let e = l.invariant a in
    let z = past-atoms (word_lines w) (c.args.from + l.j) (omega arith) in
    omega arith

pub returns-then-not-is_atom : goal.returns-then-not-is_atom
returns-then-not-is_atom c = λ a few.
    let w = c.args.ws.now in
    let l = c.loop-j in
    let e = l.invariant a in
    let z = no-atom (word_lines w) (c.args.from + l.j) ((let h1 : (c.args.from + c.loop-j.j < length (word_lines c.args.ws.now)) = let n = lines-length c.args.ws.now in omega arith in h1)) ((let h2 : (is_atom (kind (get_or (word_lines c.args.ws.now) (c.args.from + c.loop-j.j) [])) ≡ c.is_atom.result) = let w = c.args.ws.now in let i = c.args.from + c.loop-j.j in ap is_atom (kind_is w i (omega arith) a) ∙ sym (rw (word_back w (7 * i + 1) c.is_atom-arg-1.given) at c.is_atom.ensures) in h2) ∙ not-true _ c.if-not-is_atom.true-raw) in
    omega arith

pub loop-j-preserved : goal.loop-j-preserved
loop-j-preserved c = let w = c.args.ws.now in
    let f = c.args.from in
    let l = c.loop-j in
    (λ a. count-on (word_lines w) f l.j ((let h3 : (c.args.from + c.loop-j.j < length (word_lines c.args.ws.now)) = let n = lines-length c.args.ws.now in omega arith in h3)) ((let h4 : (is_atom (kind (get_or (word_lines c.args.ws.now) (c.args.from + c.loop-j.j) [])) ≡ c.is_atom.result) = let w = c.args.ws.now in let i = c.args.from + c.loop-j.j in ap is_atom (kind_is w i (omega arith) a) ∙ sym (rw (word_back w (7 * i + 1) c.is_atom-arg-1.given) at c.is_atom.ensures) in h4) ∙ not-false _ c.if-not-is_atom.false-raw) (l.invariant a))
