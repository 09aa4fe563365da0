use mathlib.Core.Path.{subst}
use mathlib.Core.List.{◌++◌}
use Prim.Native.Nat.{◌<◌, ◌+◌, ◌*◌}
use native.Mathlib.Omega.{arith}
use lib.ListN.{length, drop}
use Rattle.sheet_format.specs.Table.{table_in}
use Rattle.tableau_layout.specs.Layout.{rows_at}
use Rattle.list_laws.proofs.Ranges.{kept_more}
use Rattle.query_encoding.specs.Encoding.{atom_at}
use Rattle.tableau_plan.specs.Parts.{own_atoms, AtomsStored}
use Rattle.tableau_plan.proofs.Copies.{atom-same, own_first, own-none}
use Rattle.tableau_plan.proofs.put_atoms.Goals as goal

pub loop-j-preserved : goal.loop-j-preserved
loop-j-preserved c = let o = c.loop-j in
    let a = c.args in
    let w = c.put_atom-next in (
      omega arith,
      w.ensures.0,
      kept_more a.p.now o.p w.new.p 0 rows_at o.invariant.2 w.ensures.1,
      λ l left own few count stand d.
          let lt : o.j < length own = omega arith in
          w.ensures.2 l (own_atoms (table_in a.table.now) a.copy (drop (o.j + 1) own) ++ left) (atom_at own o.j) few
          (atom-same a.p.now o.p (a.from + o.j * 5) (atom_at own o.j) (omega arith) o.invariant.2 (stand o.j (omega arith)))
          (subst (AtomsStored o.p o.next l) (own_first (table_in a.table.now) a.copy o.j own left lt) (o.invariant.3 l left own few count stand d)),
    )

pub returns : goal.returns
returns c = let o = c.loop-j in
    let a = c.args in (
      o.invariant.1,
      o.invariant.2,
      λ l left own few count stand d. subst (AtomsStored o.p o.next l) (own-none (table_in a.table.now) a.copy o.j own left (omega arith)) (o.invariant.3 l left own few count stand d),
    )
