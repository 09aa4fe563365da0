use mathlib.Core.Path.{◌≡◌, subst}
use Prim.Native.Nat.{◌+◌}
use native.Mathlib.Omega.{arith}
use Rattle.sheet_format.specs.Table.{table_in}
use Rattle.tableau_layout.specs.Layout.{rows_at}
use Rattle.list_laws.proofs.Ranges.{kept_more}
use Rattle.tableau_plan.specs.Parts.{TableauDone}
use Rattle.tableau_plan.proofs.Copies.{sources-kept}
use Rattle.tableau_plan.proofs.put_tableau.Goals as goal

pub returns-2 : goal.returns-2
returns-2 c = let l = c.loop-copy in
    let a = c.args in
    let t = c.put_copy-at in
    let last : l.copy ≡ a.n = omega arith in (
      t.ensures.0,
      kept_more a.p.now l.p t.new.p 0 rows_at l.invariant.2 t.ensures.1,
      λ bs d h.
          let n = d.count in
          subst (λ k. TableauDone (table_in a.table.now) t.new.p (k + 1) t.result bs) last
          (t.ensures.2 a.n bs (omega arith) (sources-kept (table_in a.table.now) a.p.now l.p a.n bs c.requires.0 l.invariant.2 d) (l.invariant.3 bs d h)),
    )

pub loop-copy-preserved : goal.loop-copy-preserved
loop-copy-preserved c = let l = c.loop-copy in
    let a = c.args in
    let t = c.put_copy-at in (
      omega arith,
      t.ensures.0,
      kept_more a.p.now l.p t.new.p 0 rows_at l.invariant.2 t.ensures.1,
      λ bs d h.
          let n = d.count in
          t.ensures.2 a.n bs (omega arith) (sources-kept (table_in a.table.now) a.p.now l.p a.n bs c.requires.0 l.invariant.2 d) (l.invariant.3 bs d h),
    )
