use mathlib.Core.Path.{◌≡◌, refl, sym, ap, ◌∙◌}
use Prim.Native.Nat.{◌≤◌, ◌-◌, ◌+◌, ◌*◌}
use native.Mathlib.Omega.{arith}
use borrow.Author.Rules.{rules}
use lib.IntN.{pos}
use lib.ListN.{length, get_or, take, drop, length-set}
use Rattle.sheet_format.proofs.WordLines.{line_get}
use Rattle.list_laws.proofs.Words.{word_back}
use Rattle.sheet_format.specs.Line.{word_line}
use Rattle.sheet_causes.proofs.Laws.{word_more, whole-line}
use Rattle.sheet_causes.proofs.line_at.Goals as goal

pub returns : goal.returns
returns c = let l = c.loop-j in
    let a = c.args in
    ap word_line (whole-line a.ws.now l.l (7 * a.i) l.j l.invariant.0 (omega arith) l.invariant.2) ∙ sym (line_get a.ws.now a.i c.requires)
