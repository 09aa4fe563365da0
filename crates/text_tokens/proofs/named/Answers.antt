use mathlib.Core.Path.{◌≡◌, sym, ap, ◌∙◌}
use Prim.Native.Nat.{suc, ◌+◌, ◌-◌}
use native.Mathlib.Omega.{arith}
use native.Mathlib.Numerals.{add-one}
use lib.ListN.{drop}
use Rattle.text_writer.specs.Texts.{relation_names}
use Rattle.text_meaning.specs.Names.{are_same_bytes, among}
use Rattle.text_tokens.proofs.Names.{among_next, among-here, among_none, name_of}
use Rattle.text_tokens.proofs.named.Goals as goal

pub returns-then-are_equal-clause-number : goal.returns-then-are_equal-clause-number
returns-then-are_equal-clause-number c =
    let w = c.args.word.now in
    let r = c.loop-r.r in
    let n = c.name.ensures ∙ name_of r c.loop-r.auto.r in
    let e = ap (are_same_bytes w) (sym n) ∙ sym c.are_equal.ensures ∙ c.if-are_equal.true in
    sym (c.loop-r.invariant ∙ among-here w (r - 1) r relation_names (omega arith) e)

pub loop-r-preserved : goal.loop-r-preserved
loop-r-preserved c =
    let w = c.args.word.now in
    let r = c.loop-r.r in
    let n = c.name.ensures ∙ name_of r c.loop-r.auto.r in
    let e = ap (are_same_bytes w) (sym n) ∙ sym c.are_equal.ensures ∙ c.if-are_equal.false in
    let k : r - 1 + 1 ≡ r + 1 - 1 = omega arith in
    c.loop-r.invariant ∙ among_next w (r - 1) r relation_names (omega arith) e ∙ ap (λ k. among w (suc r) (drop k relation_names)) k ∙ rw add-one

pub returns-clause-number : goal.returns-clause-number
returns-clause-number c = sym (c.loop-r.invariant ∙ among_none c.args.word.now (c.loop-r.r - 1) c.loop-r.r relation_names (omega arith))
