use mathlib.Core.Path.{sym, ◌∙◌, subst}
use mathlib.Core.Bool.{true≢false}
use mathlib.Core.Logic.{inr}
use native.Mathlib.Omega.{arith}
use borrow.Author.Rules.{rules}
use borrow.Author.Tests.{ltb-true}
use Rattle.case_verdicts.specs.Sheets.{top}
use Rattle.search_links.proofs.Words.{place-slot}
use Rattle.search_node.specs.Node.{Standing}
use Rattle.search_node.proofs.Roots.{slot-stands}
use Rattle.search_node.proofs.Terms.{term-stands}
use Rattle.search_node.proofs.is_standing.Goals as goal

pub returns-then-place_value-v : goal.returns-then-place_value-v
returns-then-place_value-v c = let a = c.args in
    λ x y r w h e. subst (Standing x) (sym (place-slot top a.ws.now a.n h) ∙ sym c.place_value.ensures ∙ c.if-place_value-v.true)
    (slot-stands x a.ws.now (λ n lt. let z = w.size in w.stood n (omega arith)) a.n h)

pub returns : goal.returns
returns c = let a = c.args in
    λ x y r w h e. let some = c.if-v-eq0.false in term-stands a.p.now x r a.v (omega arith) (c.is_term.ensures e)

pub returns-then-is_word : goal.returns-then-is_word
returns-then-is_word c = λ x y r w h e. let (n, lt, same) = c.is_word.ensures c.if-is_word.true in subst (Standing x) same (w.stood n lt)
