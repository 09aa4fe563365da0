use mathlib.Core.Path.{◌≡◌, sym, ap, ◌∙◌}
use Prim.Native.Nat.{◌≤◌, ◌-◌}
use native.Mathlib.Omega.{arith}
use borrow.Author.Rules.{rules}
use lib.IntN.{pos}
use mir.Syntax.{w32}
use mir.Val.{to_z, of_z}
use lib.ListN.{get_or, drop}
use Rattle.sheet_format.proofs.WordLines.{field-word}
use Rattle.list_laws.proofs.Words.{back, of_bits}
use Rattle.sheet_format.specs.Line.{word_line}
use Rattle.sheet_format.specs.Cause.{occurs, terms}
use Rattle.sheet_causes.proofs.Laws.{terms-drop, occurs-here, occurs-on, occurs-end}
use Rattle.sheet_causes.proofs.occurs_in.Goals as goal

pub returns-then-l-j : goal.returns-then-l-j
returns-then-l-j c = let l = c.loop-j in
    let n = c.count-n.ensures.0 in
    let w = field-word c.args.l c.well_formed.0.1.0.1 c.requires l.j in
    let h = of_bits (record { sfits = c.t12-1.given }) c.ranges.z c.if-l-j.true in
    sym (occurs-here c.args.z (word_line c.args.l) l.j (omega arith) (w ∙ h)) ∙ (rw (back c.ranges.z) at l.invariant.1)

pub loop-j-preserved : goal.loop-j-preserved
loop-j-preserved c = let l = c.loop-j in
    let n = c.count-n.ensures.0 in
    let w = field-word c.args.l c.well_formed.0.1.0.1 c.requires l.j in
    let h : (get_or (word_line c.args.l) l.j (pos 0) ≡ c.args.z → ⊥) = λ e. c.if-l-j.false (ap (of_z w32) (sym w ∙ e)) in
    (omega arith, rw (back c.ranges.z) (occurs-on c.args.z (word_line c.args.l) l.j (omega arith) h ∙ (rw (back c.ranges.z) at l.invariant.1)))
