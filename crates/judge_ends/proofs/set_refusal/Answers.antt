use borrow.Author.Rules.{rules}
use Rattle.judge_ends.proofs.Laws.{by-ends, by-room, by-none}
use Rattle.judge_ends.proofs.set_refusal.Goals as goal

pub returns-then-wrong : goal.returns-then-wrong
returns-then-wrong c = let a = c.args in
    by-ends a.bytes.now a.ends.now a.out.now c.wrong_ends-wrong.result c.wrong_ends-wrong.ensures c.if-wrong.true

pub returns-then-short : goal.returns-then-short
returns-then-short c = let a = c.args in
    by-room a.bytes.now a.ends.now a.out.now c.wrong_ends-wrong.result c.too_short-short.result c.wrong_ends-wrong.ensures c.too_short-short.ensures c.if-wrong.false c.if-short.true

pub returns : goal.returns
returns c = let a = c.args in
    by-none a.bytes.now a.ends.now a.out.now c.wrong_ends-wrong.result c.too_short-short.result c.wrong_ends-wrong.ensures c.too_short-short.ensures c.if-wrong.false c.if-short.false
