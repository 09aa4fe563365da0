use Rattle.std.proofs.Common.{ℕ, sym, ap, subst, ◌∙◌}
use Rattle.case_verdicts.specs.Sheets.{top}
use Rattle.search_links.specs.Links.{place_root}
use Rattle.search_reasons.specs.Reasons.{Place, WayMarked}
use Rattle.search_witness.specs.Witness.{HeadRead}
use Rattle.search_witness.proofs.Laws.{head-marked}
use Rattle.search_witness.proofs.reads_head.Goals as goal

pub returns : goal.returns
returns c = let k = c.mark_way in
    let z = c.place_of-z in
    let a = c.args in
    subst (HeadRead a.p.now a.ws.now a.first.now a.b a.c a.set.now k.new.set) (sym (c.place_value.ensures ∙ ap (place_root top a.ws.now) z.ensures))
    (head-marked a.p.now a.ws.now a.first.now a.b a.c c.requires.1 (subst Place z.ensures c.if-z-ge-NOWHERE.false)
    (subst (λ (y : ℕ). WayMarked a.ws.now y a.set.now k.new.set) z.ensures (k.ensures.0 c.if-z-ge-NOWHERE.false)))
