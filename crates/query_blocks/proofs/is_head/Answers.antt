use mathlib.Core.Path.{sym, ap}
use Rattle.sheet_format.proofs.KindLaws.{head-other}
use Rattle.list_laws.proofs.Words.{word_of}
use Rattle.sheet_format.specs.Cause.{is_head, kind_of}
use Rattle.query_blocks.proofs.is_head.Goals as goal

pub returns-in-1 : goal.returns-in-1
unfolding kind_of
returns-in-1 c = ap is_head (sym (ap kind_of (word_of 1 c.ranges.word c.in-1.in-1-own.keys1)))

pub returns-in-2 : goal.returns-in-2
unfolding kind_of
returns-in-2 c = ap is_head (sym (ap kind_of (word_of 2 c.ranges.word c.in-2.in-2-own.keys2)))

pub returns-in-3 : goal.returns-in-3
unfolding kind_of
returns-in-3 c = ap is_head (sym (ap kind_of (word_of 3 c.ranges.word c.in-3.in-3-own.keys3)))

pub returns-in-minus2147483648-to-0 : goal.returns-in-minus2147483648-to-0
returns-in-minus2147483648-to-0 c = let r = c.in-minus2147483648-to-0.in-minus2147483648-to-0-own.rest in head-other c.args.word r.0.0.1 r.0.1 r.1
