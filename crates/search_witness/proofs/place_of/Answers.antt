use mathlib.Core.Path.{sym}
use Rattle.search_witness.proofs.Laws.{place-variable, place-constant}
use Rattle.search_witness.proofs.place_of.Goals as goal

pub returns-then-t-lt-NAMES : goal.returns-then-t-lt-NAMES
returns-then-t-lt-NAMES c = sym (place-variable c.args.first.now c.args.t c.if-t-lt-NAMES.true)

pub returns : goal.returns
returns c = sym (place-constant c.args.first.now c.args.t c.if-t-lt-NAMES.false)
