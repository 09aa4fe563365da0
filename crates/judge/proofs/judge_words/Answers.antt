-- The plan of an accepted number form is ready for the search.
use mathlib.Core.Path.{refl}
use Rattle.sheet_format.specs.Table.{table_in}
use Rattle.sheet_format.specs.Line.{word_lines}
use Rattle.case_verdicts.specs.Sheets.{sheet_of}
use Rattle.judge.proofs.Ways.{decided-short, ready-plan}
use borrow.Author.Rules.{rules}
use Rattle.judge.proofs.judge_words.Goals as goal

pub returns : goal.returns
returns c = let p = c.plan in
    let t = table_in c.args.table.now in
    let ls = word_lines c.args.ws.now in
    λ sound. c.decide.ensures (sheet_of t ls) (ready-plan t ls c.requires sound p.new.p (p.ensures.plan refl c.requires))
