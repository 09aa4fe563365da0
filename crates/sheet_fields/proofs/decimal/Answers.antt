use mathlib.Core.List.{append-nil, ◌++◌}
use mathlib.Core.Path.{◌≡◌, sym, ◌∙◌}
use Prim.Native.Nat.{◌≤◌, ◌%◌, ◌+◌}
use native.Mathlib.Omega.{arith}
use lib.ListN.{length-set, take, drop, replicate, length}
use borrow.Author.Rules.{rules}
use Rattle.sheet_fields.proofs.Laws.{first-digit, more-digits, still-blank, written}
use Rattle.sheet_format.specs.Field.{decimal}
use Rattle.sheet_fields.proofs.decimal.Goals as goal

pub returns-then-v-lt10 : goal.returns-then-v-lt10
returns-then-v-lt10 c = let l = c.loop-k in
    let a = c.args in
    c.sign.ensures ∙ sym (first-digit l.b l.k a.neg l.v (omega arith) (omega arith) (omega arith)) ∙ l.invariant.3

pub loop-k-preserved : goal.loop-k-preserved
loop-k-preserved c = let l = c.loop-k in
    let a = c.args in (
      omega arith,
      simp length-set (omega arith),
      still-blank l.b l.k (48 + l.v % 10) (omega arith) l.invariant.2,
      sym (more-digits l.b l.k a.neg l.v (omega arith) (omega arith) (omega arith)) ∙ l.invariant.3,
    )

pub returns : goal.returns
returns c = let l = c.loop-k in
    written l.b _ l.k _ l.v (omega arith) l.invariant.3
