-- The list that is found is given the head; none is where none is found, and none is asked for where the question is not.
use mathlib.Core.Path.{sym, ◌∙◌, subst}
use borrow.Author.Tests.{ltb-true, ltb-false, not-false}
use Rattle.tableau_parts.specs.Views.{GivenToList}
use Rattle.search_leaf.proofs.is_answered.Goals as goal

pub returns-clause-fact : goal.returns-clause-fact
returns-clause-fact c = let k = c.asks in
    let g = c.giving_list in
    let h = c.head_of-row in λ ready size off on given. (g.ensures ready).none (ltb-false _ _ off) (subst (GivenToList c.args.p.now c.args.facts.now) (sym (h.ensures size)) given)

pub returns-clause-goal_value : goal.returns-clause-goal_value
returns-clause-goal_value c = let k = c.asks in
    let g = c.giving_list in
    let h = c.head_of-row in λ ready size on.
    let (few, given) = (g.ensures ready).given (ltb-true _ _ on) in
    (sym k.ensures ∙ not-false k.result c.if-not-asks.false-raw, subst (GivenToList c.args.p.now c.args.facts.now) (h.ensures size) (g.result, few, given))
