use Rattle.std.proofs.Common.{arith}
use Rattle.std.proofs.lemmas.Bool.Decides.{Decides-eqb}
use Rattle.std.proofs.lemmas.Slice.Eq.{slice_eq-Decides}
use Rattle.search_keys.proofs.Laws.{alike-parts}
use Rattle.search_keys.proofs.are_alike.Goals as goal

pub returns : goal.returns
returns c = let a = c.args in alike-parts a.facts.now a.i a.k a.n _ _ _ (omega arith) (omega arith) (omega arith) (omega arith) (slice_eq-Decides Decides-eqb _ _ _ c.eq.ensures)
