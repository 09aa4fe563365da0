use mathlib.Core.Path.{subst, ◌≡◌, sym, ap, ◌∙◌}
use Prim.Native.Nat.{◌^◌, ◌≤◌, ◌-◌, ◌+◌}
use native.Mathlib.Omega.{arith}
use lib.ListN.{take, drop}
use borrow.Author.Rules.{rules}
use Rattle.sheet_format.specs.Field.{run}
use Rattle.sheet_format.specs.declared.Digits.TheVariants.{Blank}
use Rattle.sheet_fields.specs.Below.{DigitsBelow}
use Rattle.sheet_fields.proofs.Laws.{run-start, run_step, run-done, below_next, below-eight}
use Rattle.sheet_fields.proofs.run.Goals as goal

pub loop-i-preserved : goal.loop-i-preserved
loop-i-preserved c = let l = c.loop-i in
    let a = c.args in (
      omega arith,
      subst (λ x. DigitsBelow (10 ^ (l.i + 1)) x) (sym c.byte-d.ensures) (below_next l.i l.d _ l.invariant.1),
      ap (λ x. run x (take (8 - (l.i + 1)) (drop (a.at + (l.i + 1)) a.s.now))) c.byte-d.ensures ∙ sym (run_step a.s.now l.d a.at l.i (omega arith) (omega arith)) ∙ l.invariant.2,
    )

pub returns : goal.returns
returns c = (sym (run-done _ _ c.loop-i.i (omega arith)) ∙ c.loop-i.invariant.2, below-eight c.loop-i.i c.loop-i.d (omega arith) c.loop-i.invariant.1)
