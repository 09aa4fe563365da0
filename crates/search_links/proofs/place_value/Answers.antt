use mathlib.Core.Path.{sym, ◌∙◌}
use Rattle.case_verdicts.specs.Sheets.{top}
use Rattle.search_links.proofs.Words.{place-slot, place-constant}
use Rattle.search_links.proofs.place_value.Goals as goal

pub returns-then-w-lt-SLOTS : goal.returns-then-w-lt-SLOTS
returns-then-w-lt-SLOTS c = let a = c.args in c.root_of.ensures ∙ sym (place-slot top a.ws.now a.w c.if-w-lt-SLOTS.true)

pub returns : goal.returns
returns c = let a = c.args in sym (place-constant top a.ws.now a.w c.if-w-lt-SLOTS.false)
