use mathlib.Core.Path.{◌≡◌}
use Prim.Native.Nat.{◌≤◌, ◌-◌, ◌+◌}
use native.Mathlib.Omega.{arith}
use borrow.Author.Rules.{rules}
use lib.ListN.{length, drop}
use Rattle.sheet_line_ends.specs.Before.{before_end}
use Rattle.sheet_line_ends.proofs.Laws.{before_here, before-later, before-end}
use Rattle.sheet_line_ends.proofs.line_end.Goals as goal

pub returns-then-s-e-eq10 : goal.returns-then-s-e-eq10
returns-then-s-e-eq10 c = let l = c.loop-e in let s = c.args.s.now in let h = before_here s l.e (omega arith) c.if-s-e-eq10.true in omega arith

pub loop-e-preserved : goal.loop-e-preserved
loop-e-preserved c = let l = c.loop-e in let s = c.args.s.now in let h = before-later s l.e (omega arith) c.if-s-e-eq10.false in omega arith

pub returns : goal.returns
returns c = let l = c.loop-e in let s = c.args.s.now in let h = before-end s l.e (omega arith) in let k : length s ≤ c.args.at → before_end (drop c.args.at s) ≡ 0 = before-end s c.args.at in grind arith
