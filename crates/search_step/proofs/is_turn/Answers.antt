use mathlib.Core.Bool.{not}
use Rattle.search_step.proofs.Turns.{is-first, is-second}
use mathlib.Core.Path.{ap, ◌∙◌}
use Prim.Native.Nat.{◌-◌}
use borrow.Author.Rules.{rules}
use Rattle.search_step.proofs.is_turn.Goals as goal

pub returns-then-i-count : goal.returns-then-i-count
returns-then-i-count c = λ e. let a = c.args in c.has-hinted.ensures ∙ is-first a.hint a.count a.i a.k c.if-i-count.true e

pub returns : goal.returns
returns c = λ e. let a = c.args in ap not c.has-hinted.ensures ∙ is-second a.hint a.count a.i a.k c.if-i-count.false e
