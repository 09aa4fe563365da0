use mathlib.Core.Path.{◌≡◌, sym, ◌∙◌}
use Prim.Native.Nat.{◌+◌, ◌-◌, ◌≤◌}
use native.Mathlib.Omega.{arith}
use borrow.Author.Rules.{rules}
use lib.ListN.{drop}
use Rattle.text_meaning.specs.Names.{place_in}
use Rattle.text_reader.specs.Held.{names_at}
use Rattle.text_reader.proofs.Names.{another, found, not_found}
use Rattle.text_reader.proofs.place.Goals as goal

pub returns-then-is_same : goal.returns-then-is_same
returns-then-is_same c = let a = c.args in
    let i = c.loop-i.invariant in
    (found a.text.now a.names.now a.count c.requires.0 a.word.now c.loop-i.i i (omega arith) (sym c.is_same.ensures ∙ c.if-is_same.true), omega arith)

pub loop-i-preserved : goal.loop-i-preserved
loop-i-preserved c = let a = c.args in
    another a.text.now a.names.now a.count c.requires.0 a.word.now c.loop-i.i c.loop-i.invariant (omega arith) (sym c.is_same.ensures ∙ c.if-is_same.false)

pub returns : goal.returns
returns c = let a = c.args in
    let e : c.loop-i.i ≡ a.count = omega arith in
    (rw e at (not_found a.text.now a.names.now a.count c.requires.0 a.word.now c.loop-i.i c.loop-i.invariant (omega arith)), omega arith)
