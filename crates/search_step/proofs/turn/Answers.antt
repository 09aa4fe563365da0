use mathlib.Core.Path.{sym}
use native.Mathlib.Omega.{arith}
use Rattle.search_step.proofs.Turns.{turn-first, turn-second}
use borrow.Author.Rules.{rules}
use Rattle.search_step.proofs.turn.Goals as goal

pub returns-then-n-count : goal.returns-then-n-count
returns-then-n-count c = let a = c.args in let z = c.if-n-count.true in (sym (turn-first a.count a.n z), λ lt. z)

pub returns : goal.returns
returns c = let a = c.args in let z = c.if-n-count.false in (sym (turn-second a.count a.n z), λ lt. omega arith)
