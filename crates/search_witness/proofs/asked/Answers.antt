use Rattle.search_witness.proofs.Laws.{asked-shown}
use Rattle.search_witness.proofs.asked.Goals as goal

pub returns-in-Some-clause-asked_shown : goal.returns-in-Some-clause-asked_shown
returns-in-Some-clause-asked_shown c = let a = c.args in λ e. asked-shown a.p.now a.ws.now c.own_places-first.result c.own_places-first.ensures c.in-Some.ensures
