use mathlib.Core.Path.{◌≡◌, sym, ◌∙◌}
use native.Mathlib.Omega.{arith}
use lib.ListN.{length, get_or}
use mathlib.Core.Bool.{true, false}
use borrow.Author.Tests.{not-true, not-false}
use Rattle.text_meaning.specs.Tokens.{token_kind, joins}
use Rattle.text_tokens.proofs.Tokens.{token-first, token-grows, token-ends, TokenEnds-all}
use Rattle.text_tokens.proofs.token_end.Goals as goal

pub loop-e-init : goal.loop-e-init
loop-e-init c = let h = c.requires.inside in (omega arith, omega arith, token-first _ _ c.requires, c.kind_of-kind.ensures)

pub returns-then-not-joins : goal.returns-then-not-joins
returns-then-not-joins c = let a = c.args in
    let i = c.loop-e.invariant in
    let j : joins (token_kind (get_or a.text.now a.at 0)) (token_kind (get_or a.text.now c.loop-e.e 0)) ≡ false = rw (i.3, c.kind_of.ensures) at (sym c.joins.ensures ∙ not-true _ c.if-not-joins.true-raw) in
    record { after = i.0; inside = i.1; token = i.2 ∙ token-ends a.text.now a.at c.loop-e.e i.0 (omega arith) j }

pub loop-e-preserved : goal.loop-e-preserved
loop-e-preserved c = let a = c.args in
    let i = c.loop-e.invariant in
    let j : joins (token_kind (get_or a.text.now a.at 0)) (token_kind (get_or a.text.now c.loop-e.e 0)) ≡ true = rw (i.3, c.kind_of.ensures) at (sym c.joins.ensures ∙ not-false _ c.if-not-joins.false-raw) in
    (omega arith, omega arith, i.2 ∙ token-grows a.text.now a.at c.loop-e.e i.0 (omega arith) j, i.3)

pub returns : goal.returns
returns c = let a = c.args in
    let i = c.loop-e.invariant in
    let h = c.requires.inside in
    let k : c.loop-e.e ≡ length a.text.now = omega arith in
    rw k at (TokenEnds-all a.text.now a.at c.loop-e.e i.0 i.1 i.2 (omega arith))
