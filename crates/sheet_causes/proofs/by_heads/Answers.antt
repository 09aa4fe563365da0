use mathlib.Core.Path.{◌≡◌, refl, sym, ◌∙◌}
use Prim.Native.Nat.{◌-◌, ◌+◌}
use native.Mathlib.Omega.{arith}
use borrow.Author.Rules.{rules}
use lib.ListN.{drop}
use Rattle.sheet_format.proofs.WordLines.{lines-length}
use Rattle.sheet_format.specs.Line.{word_lines}
use Rattle.sheet_format.specs.Cause.{heads}
use Rattle.sheet_causes.proofs.Laws.{heads-here, heads-on, heads-end}
use Rattle.sheet_causes.proofs.by_heads.Goals as goal

pub returns-then-is_unsafe : goal.returns-then-is_unsafe
returns-then-is_unsafe c = let l = c.loop-i in
    let n = lines-length c.args.ws.now in
    heads-here (word_lines c.args.ws.now) l.i (omega arith) (sym c.is_unsafe.ensures ∙ c.if-is_unsafe.true) ∙ l.invariant

pub loop-i-preserved : goal.loop-i-preserved
loop-i-preserved c = let l = c.loop-i in
    let n = lines-length c.args.ws.now in
    heads-on (word_lines c.args.ws.now) l.i (omega arith) (sym c.is_unsafe.ensures ∙ c.if-is_unsafe.false) ∙ l.invariant

pub returns : goal.returns
returns c = let n = lines-length c.args.ws.now in
    heads-end (word_lines c.args.ws.now) c.loop-i.i (omega arith) ∙ c.loop-i.invariant
