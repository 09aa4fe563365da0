-- The loop holds that the slots passed have their values.
use Rattle.std.proofs.Common.{◌≡◌, ℕ, ◌<◌, length, get_or}
use Rattle.tableau_layout.specs.Layout.{slot_end}
use Rattle.case_verdicts.specs.Sheets.{top}
use Rattle.search_links.specs.Links.{linked_state}
use Rattle.search_node.proofs.read_all.Given as goal

abbrev pub invariant-loop-n : goal.invariant-loop-n
invariant-loop-n l = record { long : length l.out ≡ slot_end; read : (y : ℕ) → y < l.n → get_or l.out y 0 ≡ linked_state top l.ws y }
