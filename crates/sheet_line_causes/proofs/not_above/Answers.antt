use mathlib.Core.Path.{◌≡◌, ap}
use Prim.Native.Nat.{◌≤◌, ◌+◌}
use native.Mathlib.Omega.{arith}
use lib.Seq.{slice}
use mathlib.Core.Bool.{true, not}
use lib.Dec.{eqb}
use Rattle.sheet_format.specs.Returns.{kind_number}
use borrow.Author.Tests.{eq-eqb, ne_eqb}
use Rattle.sheet_line_causes.proofs.Lines.{line-fields, line-above}
use borrow.Author.Rules.{rules}
use Rattle.sheet_line_causes.proofs.not_above.Goals as goal

pub overflow_add-m : goal.overflow_add-m
overflow_add-m c = let m = (let h1 : (c.count-m.result ≤ 6) = rw c.count-m.ensures (line-fields c.args.before.now c.requires.0).1 in h1) in omega arith

pub is_above-requires : goal.is_above-requires
is_above-requires c = let m = (let h2 : (c.count-m.result ≤ 6) = rw c.count-m.ensures (line-fields c.args.before.now c.requires.0).1 in h2) in omega arith

pub returns : goal.returns
returns c = let e : eqb (kind_number c.args.last) 5 ≡ true = search rules in rw e
    (ap not
    (line-above c.args.before.now (slice 2 (c.args.n + 1) c.args.words.now) c.count-m.result c.is_above.result c.requires.0 c.count-m.ensures c.is_above.ensures))
