use native.Mathlib.Omega.{arith}
use Rattle.tableau_plan.proofs.Copies.{atom-kept, atom-stored}
use Rattle.tableau_plan.proofs.place_atom.Goals as goal

pub returns : goal.returns
returns c = let a = c.args in
    let w = c.place_terms in
    let room = c.if-at-ge-TABLEAU_ATOMS.false in (
      omega arith,
      atom-kept a.p.now w.new.p a.copy a.relation a.from a.at c.requires.1 c.requires.0 room w.ensures.0 w.ensures.1,
      λ l left b few h d. atom-stored a.p.now w.new.p a.copy a.relation a.from a.at c.requires.1 c.requires.0 room w.ensures.0 w.ensures.1 l left b h d,
    )
