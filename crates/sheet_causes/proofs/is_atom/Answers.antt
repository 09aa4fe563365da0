-- `causes::is_atom` meets its contract: the kind is the second word's.
use mathlib.Core.Path.{sym, ap, ◌∙◌}
use lib.IntN.{pos}
use lib.ListN.{get_or}
use Rattle.sheet_format.proofs.WordLines.{kind-word}
use Rattle.sheet_format.proofs.KindLaws.{atom-other}
use Rattle.sheet_format.specs.Cause.{is_atom, kind_of}
use Rattle.sheet_causes.proofs.Laws.{kind-is}
use borrow.Author.Rules.{rules}
use Rattle.sheet_causes.proofs.is_atom.Goals as goal

pub returns-in-4 : goal.returns-in-4
unfolding kind_of
returns-in-4 c = ap is_atom (kind-is c.args.l c.well_formed.0.1.0.1 c.requires 4 (record { sfits = c.k-1.given }) c.in-4.in-4-own.keys1)

pub returns-in-minus2147483648-to-3 : goal.returns-in-minus2147483648-to-3
returns-in-minus2147483648-to-3 c = atom-other (get_or c.args.l 1 (pos 0)) c.in-minus2147483648-to-3.in-minus2147483648-to-3-own.rest.1 ∙ ap is_atom (sym (kind-word c.args.l c.well_formed.0.1.0.1 c.requires))
