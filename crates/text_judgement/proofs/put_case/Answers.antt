-- One part after the other.
use borrow.Author.Rules.{rules}
use Rattle.text_buffer.proofs.Laws.{followed}
use Rattle.text_judgement.specs.Verdict.{case_bytes}
use Rattle.text_judgement.proofs.put_case.Goals as goal

pub returns : goal.returns
unfolding case_bytes
returns c = let a = followed (followed c.put-a.ensures c.put_missing-b.ensures) c.put-c.ensures in
    followed (followed a c.put_facts-d.ensures) c.put.ensures
