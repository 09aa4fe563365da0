use mathlib.Core.Path.{sym, ap}
use Rattle.sheet_format.proofs.KindLaws.{atom-other}
use Rattle.list_laws.proofs.Words.{word_of}
use Rattle.sheet_format.specs.Cause.{is_atom, kind_of}
use Rattle.query_blocks.proofs.is_atom.Goals as goal

pub returns-in-4 : goal.returns-in-4
unfolding kind_of
returns-in-4 c = ap is_atom (sym (ap kind_of (word_of 4 c.ranges.word c.in-4.in-4-own.keys1)))

pub returns-in-minus2147483648-to-3 : goal.returns-in-minus2147483648-to-3
returns-in-minus2147483648-to-3 c = atom-other c.args.word c.in-minus2147483648-to-3.in-minus2147483648-to-3-own.rest.1
