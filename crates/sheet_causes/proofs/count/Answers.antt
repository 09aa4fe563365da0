-- `causes::count` meets its contract: the first word of a well_formed_parts line is its field count.
use mathlib.Core.Path.{refl}
use native.Mathlib.Omega.{arith}
use Rattle.sheet_format.proofs.WordLines.{first_word, line-few}
use Rattle.list_laws.proofs.Words.{back}
use borrow.Author.Rules.{rules}
use Rattle.sheet_causes.proofs.count.Goals as goal

pub overflow_cast-result : goal.overflow_cast-result
overflow_cast-result c = let h = line-few c.args.l c.well_formed.0.1.0.1 c.requires in
    rw (back (record { sfits = c.result-1.given }), first_word c.args.l c.well_formed.0.1.0.1 c.requires) (tt, record { fits = omega arith })

pub returns : goal.returns
returns c = rw (back (record { sfits = c.result-1.given }), first_word c.args.l c.well_formed.0.1.0.1 c.requires) (refl, (line-few c.args.l c.well_formed.0.1.0.1 c.requires).1)
