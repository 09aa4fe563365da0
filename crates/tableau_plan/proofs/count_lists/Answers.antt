use mathlib.Core.Path.{sym, subst, ◌∙◌}
use Prim.Native.Nat.{◌<◌, ◌+◌}
use native.Mathlib.Omega.{arith}
use lib.ListN.{length}
use Rattle.sheet_format.specs.Line.{word_lines}
use Rattle.sheet_format.proofs.WordLines.{lines-length}
use Rattle.tableau_plan.proofs.Blocks.{ListsSoFar, lists-one, lists-same, lists-all}
use Rattle.tableau_plan.proofs.Taken.{kind-saved, kind-no-saved}
use Rattle.tableau_plan.proofs.count_lists.Goals as goal
use Rattle.tableau_plan.proofs.count_lists.Goals.{then-number_at-eq-SAVED_KIND, else-number_at-eq-SAVED_KIND}

pub loop-i-preserved : goal.loop-i-preserved
loop-i-preserved c = let w = c.args.ws.now in
    let l = c.loop-i in
    let k = c.number_at.ensures in
    let n = lines-length w in
    let in-lines : l.i < length (word_lines w) = omega arith in
    elim c.if-number_at-eq-SAVED_KIND.branch [
      | then-number_at-eq-SAVED_KIND b ↦
          let e = b.lists-is in (
            omega arith,
            omega arith,
            λ ok. subst (ListsSoFar (word_lines w) (l.i + 1)) (sym e)
                (lists-one (word_lines w) l.i l.lists in-lines (l.invariant.2 ok) (kind-saved w l.i (omega arith) ok (sym k ∙ b.if-number_at-eq-SAVED_KIND.true))),
          )
      | else-number_at-eq-SAVED_KIND b ↦
          let e = b.lists-is in (
            omega arith,
            omega arith,
            λ ok. subst (ListsSoFar (word_lines w) (l.i + 1)) (sym e)
                (lists-same (word_lines w) l.i l.lists in-lines (l.invariant.2 ok) (kind-no-saved w l.i (omega arith) ok (λ f. b.if-number_at-eq-SAVED_KIND.false (k ∙ f)))),
          )
    ]

pub returns : goal.returns
returns c = let w = c.args.ws.now in
    let n = lines-length w in
    λ ok. lists-all (word_lines w) c.loop-i.i c.loop-i.lists (omega arith) (c.loop-i.invariant.2 ok)
