use mathlib.Core.Path.{ap, ◌∙◌}
use Prim.Native.Nat.{◌+◌, ◌*◌}
use native.Mathlib.Omega.{arith}
use lib.IntN.{pos}
use borrow.Author.Rules.{rules}
use Rattle.sheet_own_table.proofs.Bytes.{own_is, own-numbers, own-most, last-field}
use Rattle.sheet_own_table.proofs.own_field.Goals as goal

pub returns-in-1 : goal.returns-in-1
returns-in-1 c = let a = c.args in
    (ap pos (own-numbers a.n (omega arith)).0 ∙ own_is a.n a.j 1 (omega arith) c.in-1.is, own-most (a.n * 3) (omega arith))

pub returns-in-2 : goal.returns-in-2
returns-in-2 c = let a = c.args in
    (ap pos (own-numbers a.n (omega arith)).1 ∙ own_is a.n a.j 2 (omega arith) c.in-2.is, own-most (a.n * 3 + 1) (omega arith))

pub returns-in_default : goal.returns-in_default
returns-in_default c = let a = c.args in
    let r = c.in_default.in_default-own.rest in
    (ap pos (own-numbers a.n (omega arith)).2 ∙ own_is a.n a.j 3 (omega arith) (last-field a.j (omega arith) r.0.0.1 r.0.1 r.1), own-most (a.n * 3 + 2) (omega arith))
