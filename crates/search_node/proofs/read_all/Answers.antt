use Rattle.std.proofs.Common.{arith, ◌∙◌}
use Rattle.std.proofs.lemmas.List.{length-set}
use borrow.Author.Count.{below_more}
use lib.Seq.{get_or-set_same, get_or-set_other}
use Rattle.case_verdicts.specs.Sheets.{top}
use Rattle.search_links.proofs.Words.{place-slot}
use Rattle.search_node.proofs.read_all.Goals as goal

pub loop-n-preserved : goal.loop-n-preserved
loop-n-preserved c =
    let l = c.loop-n in
    let h = c.loop-n-test.true in
    let v = c.place_value.result in
    let long = l.invariant.long in
    record {
      long = length-set l.out l.n v ∙ long;
      read = below_more _ _
          (λ y lt. get_or-set_other l.out l.n y v 0 (λ q. absurd (omega arith)) ∙ l.invariant.read y lt)
          (get_or-set_same l.out l.n v 0 (omega arith) ∙ c.place_value.ensures ∙ place-slot top c.args.ws.now l.n h);
    }
