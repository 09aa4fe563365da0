use Rattle.case_verdicts.specs.Sheets.{top}
use Rattle.search_links.proofs.Rows.{freed_back}
use Rattle.search_links.proofs.release.Goals as goal

pub returns : goal.returns
returns c = let second = c.unlink-2 in
    let first = c.unlink in
    let a = c.args in
    λ four also old fu fr l o. freed_back top old a.ws.now first.new.ws second.new.ws a.u.now a.r.now fu fr l o first.ensures second.ensures
