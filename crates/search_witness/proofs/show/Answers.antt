use Rattle.std.proofs.Common.{refl}
use Rattle.search_witness.proofs.Laws.{row-shown}
use Rattle.search_witness.proofs.show.Goals as goal

pub returns-in-Some-clause-row_shown : goal.returns-in-Some-clause-row_shown
returns-in-Some-clause-row_shown c = let a = c.args in
    λ e. row-shown a.p.now a.ws.now c.first_places-first.result a.from a.b a.at.now c.size_at-n.result (c.if-not-reads_atoms.ensures refl) c.in-Some.ensures (c.size_at-n.ensures c.if-b-ge-MOST_BLOCKS.false)
