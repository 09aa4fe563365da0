use Rattle.std.proofs.Common.{arith, ◌∙◌, sym, subst, get_or}
use Rattle.std.proofs.lemmas.List.{length-set}
use borrow.Author.Count.{below_more}
use borrow.Author.Tests.{not-false}
use lib.Seq.{get_or-set_same, get_or-set_other}
use Rattle.search_node.specs.Node.{Standing}
use Rattle.search_node.proofs.take_values.Goals as goal

pub loop-n-preserved : goal.loop-n-preserved
loop-n-preserved c =
    let k = c.is_standing in
    let h = c.loop-n-test.true in
    let l = c.loop-n in
    let v = get_or c.args.values.now l.n 0 in
    let long = l.invariant.long in
    record {
      long = length-set l.out l.n v ∙ long;
      stood = λ x y r w. below_more _ _
          (λ z lt. subst (Standing x) (sym (get_or-set_other l.out l.n z v 0 (λ q. absurd (omega arith)))) (l.invariant.stood x y r w z lt))
          (subst (Standing x) (sym (get_or-set_same l.out l.n v 0 (omega arith))) (k.ensures x y r w h (not-false k.result c.if-not-is_standing.false-raw)));
    }

pub returns-clause-standing : goal.returns-clause-standing
returns-clause-standing c = let l = c.loop-n in let h = c.loop-n-test.false in λ x y r w long on n lt. l.invariant.stood x y r w n (omega arith)
