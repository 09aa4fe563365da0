-- `causes::is_head` meets its contract: the kind is the second word's.
use mathlib.Core.Path.{sym, ap, ◌∙◌}
use lib.IntN.{pos}
use lib.ListN.{get_or}
use Rattle.sheet_format.proofs.WordLines.{kind-word}
use Rattle.sheet_format.proofs.KindLaws.{head-other}
use Rattle.sheet_format.specs.Cause.{is_head, kind_of}
use Rattle.sheet_causes.proofs.Laws.{kind-is}
use borrow.Author.Rules.{rules}
use Rattle.sheet_causes.proofs.is_head.Goals as goal

pub returns-in-1 : goal.returns-in-1
unfolding kind_of
returns-in-1 c = ap is_head (kind-is c.args.l c.well_formed.0.1.0.1 c.requires 1 (record { sfits = c.k-1.given }) c.in-1.in-1-own.keys1)

pub returns-in-2 : goal.returns-in-2
unfolding kind_of
returns-in-2 c = ap is_head (kind-is c.args.l c.well_formed.0.1.0.1 c.requires 2 (record { sfits = c.k-1.given }) c.in-2.in-2-own.keys2)

pub returns-in-3 : goal.returns-in-3
unfolding kind_of
returns-in-3 c = ap is_head (kind-is c.args.l c.well_formed.0.1.0.1 c.requires 3 (record { sfits = c.k-1.given }) c.in-3.in-3-own.keys3)

pub returns-in-minus2147483648-to-0 : goal.returns-in-minus2147483648-to-0
returns-in-minus2147483648-to-0 c = let r = c.in-minus2147483648-to-0.in-minus2147483648-to-0-own.rest in
    head-other (get_or c.args.l 1 (pos 0)) r.0.0.1 r.0.1 r.1 ∙ ap is_head (sym (kind-word c.args.l c.well_formed.0.1.0.1 c.requires))
