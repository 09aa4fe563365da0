-- The facts looked through are those of the state.
use Rattle.std.specs.Prelude.{IfSome, min}
use Rattle.std.proofs.Common.{subst}
use Rattle.sheet_format.specs.Limits.{most_atoms}
use Rattle.tableau_layout.specs.Layout.{view_block}
use Rattle.query_answers.specs.Answers.{WitnessAt}
use Rattle.tableau_plan.specs.Plan.{block_numbers, block_size}
use Rattle.search_violation.specs.Parts.{StrayIn}
use Rattle.search_task.proofs.NodeLaws.{ready-views}
use Rattle.search_leaf.proofs.first_stray.Goals as goal

pub returns-clause-stray : goal.returns-clause-stray
returns-clause-stray c = let p = c.args.p.now in
    λ x r size. subst (λ ns. StrayIn p ns c.first.result) (c.write_facts-n.ensures.out_after x r size) (c.first.ensures.stray (ready-views p x r))

pub returns-clause-witness : goal.returns-clause-witness
returns-clause-witness c = let p = c.args.p.now in
    λ x r size. subst (λ ns. IfSome c.first.result (λ v. WitnessAt (block_numbers p (view_block v.view)) (min (block_size p (view_block v.view)) most_atoms) ns v.values v.at)) (c.write_facts-n.ensures.out_after x r size)
    (c.first.ensures.witness (ready-views p x r))
