use native.Mathlib.Omega.{arith}
use Rattle.case_verdicts.specs.Sheets.{top}
use Rattle.search_links.proofs.Rows.{freed_more}
use Rattle.search_links.proofs.unlink.Goals as goal

pub loop-v-preserved : goal.loop-v-preserved
loop-v-preserved c = freed_more top _ c.loop-v.ws _ c.loop-v.v-index c.write.result c.write.new.ws (omega arith) c.loop-v.invariant c.write.ensures
