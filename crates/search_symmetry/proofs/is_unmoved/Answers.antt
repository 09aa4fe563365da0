use Rattle.std.proofs.Common.{refl}
use Rattle.search_symmetry.proofs.Laws.{unmoved_more}
use Rattle.search_symmetry.proofs.is_unmoved.Goals as goal

pub loop-v-preserved : goal.loop-v-preserved
loop-v-preserved c = unmoved_more _ _ _ c.loop-v.invariant (c.if-not-is_unmoved_value.ensures refl)
