use native.Mathlib.Omega.{arith}
use Rattle.tableau_parts.proofs.Laws.{block-four}
use Rattle.tableau_parts.proofs.four_at.Goals as goal

pub returns : goal.returns
returns c = let a = c.args in block-four a.p.now a.b a.k (omega arith)
