use mathlib.Core.Path.{◌≡◌, sym, ap, ◌∙◌}
use Prim.Native.Nat.{◌≤◌, ◌<◌, ◌-◌, ◌+◌}
use native.Mathlib.Omega.{arith}
use borrow.Author.Rules.{rules}
use mathlib.Core.Bool.{false}
use lib.IntN.{pos}
use lib.ListN.{length, get_or, drop}
use borrow.Author.Tests.{not-true, not-false}
use Rattle.sheet_format.proofs.WordLines.{lines-length, field-word}
use Rattle.list_laws.proofs.Words.{word_back}
use Rattle.sheet_format.specs.Line.{all, null, word_line, word_lines}
use Rattle.sheet_format.specs.Cause.{atoms, rest, bound}
use Rattle.sheet_causes.proofs.Laws.{formed-at, all-off, all-on, all_end, all_rest}
use Rattle.sheet_causes.proofs.all_bound.Goals as goal

pub count-n-requires : goal.count-n-requires
count-n-requires c = (let h1 : (null (word_line c.line_at-l.result) ≡ false) = ap null c.line_at-l.ensures ∙ formed-at c.requires.formed_lines c.args.i ((let h2 : (c.args.i < length (word_lines c.args.ws.now)) = let n = lines-length c.args.ws.now in omega arith in h2)) in h1)

pub returns-then-not-is_bound : goal.returns-then-not-is_bound
returns-then-not-is_bound c = let l = c.loop-j in
    let n = c.count-n.ensures.0 in
    let p = bound (atoms (drop (c.args.i + 1) (word_lines c.args.ws.now))) in
    sym (all-off p (word_line c.line_at-l.result) l.j (omega arith) (sym ((let h3 : (c.is_bound.result ≡ bound (atoms (drop (c.args.i + 1) (word_lines c.args.ws.now))) (get_or (word_line c.line_at-l.result) c.loop-j.j (pos 0))) = let l = c.loop-j in let h = word_back c.line_at-l.result (l.j + 1) c.is_bound-arg-1.given in (rw h at c.is_bound.ensures) ∙ ap (bound (atoms (drop (c.args.i + 1) (word_lines c.args.ws.now)))) (sym (field-word c.line_at-l.result c.line_at-l.type_inv.1.0.1 ((let h4 : (null (word_line c.line_at-l.result) ≡ false) = ap null c.line_at-l.ensures ∙ formed-at c.requires.formed_lines c.args.i ((let h5 : (c.args.i < length (word_lines c.args.ws.now)) = let n = lines-length c.args.ws.now in omega arith in h5)) in h4)) l.j)) in h3)) ∙ not-true _ c.if-not-is_bound.true-raw)) ∙ l.invariant.1
    ∙ ap (λ l. all p (rest l)) c.line_at-l.ensures

pub loop-j-preserved : goal.loop-j-preserved
loop-j-preserved c = let l = c.loop-j in
    let n = c.count-n.ensures.0 in
    let p = bound (atoms (drop (c.args.i + 1) (word_lines c.args.ws.now))) in
    (omega arith, all-on p (word_line c.line_at-l.result) l.j (omega arith) (sym ((let h6 : (c.is_bound.result ≡ bound (atoms (drop (c.args.i + 1) (word_lines c.args.ws.now))) (get_or (word_line c.line_at-l.result) c.loop-j.j (pos 0))) = let l = c.loop-j in let h = word_back c.line_at-l.result (l.j + 1) c.is_bound-arg-1.given in (rw h at c.is_bound.ensures) ∙ ap (bound (atoms (drop (c.args.i + 1) (word_lines c.args.ws.now)))) (sym (field-word c.line_at-l.result c.line_at-l.type_inv.1.0.1 ((let h7 : (null (word_line c.line_at-l.result) ≡ false) = ap null c.line_at-l.ensures ∙ formed-at c.requires.formed_lines c.args.i ((let h8 : (c.args.i < length (word_lines c.args.ws.now)) = let n = lines-length c.args.ws.now in omega arith in h8)) in h7)) l.j)) in h6)) ∙ not-false _ c.if-not-is_bound.false-raw) ∙ l.invariant.1)
