use Rattle.sheet_own_table.specs.Own.{own_bytes}
use Rattle.sheet_own_table.proofs.Means.{own_loads}
use Rattle.text_answer.proofs.Calls.{own-answered}
use Rattle.text_answer.proofs.answer.Goals as goal

pub returns : goal.returns
returns c = own-answered c.args.given.now c.args.out.now c.reply.new.out c.reply.result (c.reply.ensures own_bytes (own_loads c.own_table.result c.own_table.ensures))
