use mathlib.Core.Path.{sym, subst}
use Prim.Native.Nat.{suc}
use native.Mathlib.Numerals.{add-one}
use lib.ListN.{drop}
use Rattle.sheet_format.specs.Table.{table_in}
use Rattle.tableau_plan.specs.Parts.{atoms_from, AtomsStored}
use Rattle.tableau_plan.proofs.Copies.{copy_block, copy-size, copy-atoms, copy-ahead}
use Rattle.tableau_plan.proofs.put_copy.Goals as goal

pub returns : goal.returns
returns c = let a = c.args in
    let o = c.source-b in
    let w = c.put_atoms in (
      w.ensures.0,
      w.ensures.1,
      λ n bs lt d h.
          let is = o.ensures.0 (d.low a.copy lt) in
          let p = a.p.now in
          let k = a.copy in
          subst (λ i. AtomsStored w.new.p w.result (atoms_from (table_in a.table.now) 0 bs) (atoms_from (table_in a.table.now) i (drop i bs))) (sym (add-one k))
          (w.ensures.2 (atoms_from (table_in a.table.now) 0 bs) (atoms_from (table_in a.table.now) (suc k) (drop (suc k) bs)) (copy_block (table_in a.table.now) p n bs k o.result is d lt).atoms d.few (copy-size (table_in a.table.now) p n bs k o.result is d lt) (copy-atoms (table_in a.table.now) p n bs k o.result is d lt)
          (subst (AtomsStored p a.at (atoms_from (table_in a.table.now) 0 bs)) (copy-ahead (table_in a.table.now) k bs lt) h)),
    )
