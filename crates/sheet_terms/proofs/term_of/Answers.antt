use mathlib.Core.Path.{◌≡◌, sym, ap, ◌∙◌}
use Prim.Native.Nat.{ℕ, suc, ◌<◌}
use native.Mathlib.Omega.{arith}
use lib.IntN.{pos, negsuc, ◌-ℤ◌}
use Rattle.sheet_format.specs.Limits.{constant_end}
use Rattle.list_laws.proofs.Words.{back, to_pos}
use Rattle.sheet_format.specs.Cause.{term_of}
use Rattle.sheet_terms.proofs.Laws.{variable, term-variable, term-low, constant, term-constant, term-high}
use Rattle.sheet_terms.proofs.term_of.Goals as goal

pub returns-then-t-lt-LAST_VARIABLE : goal.returns-then-t-lt-LAST_VARIABLE
returns-then-t-lt-LAST_VARIABLE c = let h = c.ranges.t in term-low c.args.t (rw (back h) at c.if-t-lt-LAST_VARIABLE.true)

pub returns-then-t-lt0 : goal.returns-then-t-lt0
returns-then-t-lt0 c = let (n, lt, e, g) = (let h = c.ranges.t in variable c.args.t (rw (back h) at c.if-t-lt0.true) (rw (back h) at c.if-t-lt-LAST_VARIABLE.false)) in
    rw (back c.ranges.t, g, to_pos (suc n) (omega arith)) (term-variable n lt ∙ ap term_of (sym e))

pub returns-then-t-lt-CONSTANT_END : goal.returns-then-t-lt-CONSTANT_END
returns-then-t-lt-CONSTANT_END c = let (n, lt, e) = (let h = c.ranges.t in constant c.args.t (rw (back h) at c.if-t-lt0.false) (rw (back h) at c.if-t-lt-CONSTANT_END.true)) in
    rw (back c.ranges.t, e) (term-constant n lt)

pub returns : goal.returns
returns c = let h = c.ranges.t in term-high c.args.t (rw (back h) at c.if-t-lt-CONSTANT_END.false)
