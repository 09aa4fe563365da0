use Rattle.std.proofs.Common.{arith, ap, sym}
use lib.ListN.{length, length-map}
use Rattle.text_buffer.proofs.Laws.{said, nothing}
use Rattle.judge_ends.specs.Returns.{judgement_at, judgements_at}
use Rattle.day_page.proofs.Laws.{shown-each, nothing_yet, places_more}
use Rattle.day_page.proofs.put_sheets.Goals as goal

pub loop-i-init : goal.loop-i-init
loop-i-init c = let a = c.args in said (nothing_yet (judgements_at a.sheets.now)) (nothing a.out.now 0)

pub put_sheet-n-requires : goal.put_sheet-n-requires
put_sheet-n-requires c = (omega arith, shown-each c.args.sheets.now c.loop-i.i _ c.requires.1 (omega arith))

pub loop-i-preserved : goal.loop-i-preserved
loop-i-preserved c = places_more c.args.sheets.now c.loop-i.i _ (omega arith) c.loop-i.invariant c.put_sheet-n.ensures
