use mathlib.Core.Path.{refl}
use Prim.Native.Nat.{◌-◌}
use native.Mathlib.Omega.{arith}
use lib.ListN.{get_or}
use Rattle.tableau_layout.specs.Layout.{tableau_size_at}
use Rattle.case_verdicts.specs.Sheets.{top}
use Rattle.case_verdicts.specs.Words.{state_of}
use Rattle.search_state.proofs.Tableau.{facts-taken}
use Rattle.search_state.proofs.facts.Goals as goal

pub returns : goal.returns
returns c = let m = c.numbers in
    let a = c.args in
    λ l f s w o.
    let k = m.auto.out in
    (refl, facts-taken a.p.now (state_of top a.st.now) m.new.out a.from (get_or a.p.now tableau_size_at 0 - a.from) (omega arith) m.ensures)
