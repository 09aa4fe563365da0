use mathlib.Core.Path.{sym, ap, ◌∙◌}
use Prim.Native.Nat.{◌+◌}
use native.Mathlib.Omega.{arith}
use lib.ListN.{drop}
use Rattle.text_meaning.specs.Names.{number_from}
use Rattle.text_tokens.proofs.Names.{number-next, number-end}
use Rattle.text_tokens.proofs.number_from.Goals as goal

pub loop-b-preserved : goal.loop-b-preserved
loop-b-preserved c = let a = c.args in
    let i = c.loop-b.b-index in
    let e = number-next a.digits.now i c.loop-b.n (omega arith) in
    (c.loop-b.invariant.0 ∙ e ∙ ap (λ n. number_from n (drop (i + 1) a.digits.now)) (sym c.longer-n.ensures.0), c.longer-n.ensures.1)

pub returns : goal.returns
returns c = let a = c.args in
    (sym (c.loop-b.invariant.0 ∙ number-end a.digits.now c.loop-b.b-index c.loop-b.n (omega arith)), c.loop-b.invariant.1)
