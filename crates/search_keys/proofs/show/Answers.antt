use Rattle.std.proofs.Common.{ap, ◌∙◌}
use Rattle.tableau_plan.specs.Plan.{key_in}
use Rattle.search_keys.proofs.Marks.{clash-shown, relation-at}
use Rattle.search_keys.proofs.show.Goals as goal

pub returns-clause-clash_shown : goal.returns-clause-clash_shown
returns-clause-clash_shown c = let a = c.args in
    λ li lk f g. clash-shown a.p.now a.ws.now a.i a.k _ (c.key_of-key.ensures.0 ∙ ap (key_in a.p.now) (relation-at a.p.now a.i)) (c.mark_key.ensures f g) (c.mark_row-left.ensures f) (c.mark_row-right.ensures g)
