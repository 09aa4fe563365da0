-- Nothing where the number is 0.
use borrow.Author.Rules.{rules}
use Rattle.text_writer.proofs.Parts.{where_is, unless_is}
use Rattle.text_buffer.proofs.Laws.{nothing, said}
use mathlib.Core.List.{[]}
use Rattle.text_refusals.proofs.put_after_one.Goals as goal

pub returns-then-n-eq0 : goal.returns-then-n-eq0
returns-then-n-eq0 c = said (where_is c.args.s.now c.if-n-eq0.true) (nothing c.args.out.now c.args.at)
