-- "/" stands there or not; beyond the text stands nothing.
use mathlib.Core.Path.{◌≡◌, sym, ◌∙◌}
use Prim.Native.Nat.{ℕ}
use native.Mathlib.Omega.{arith}
use lib.ListN.{get_or, get_or-eq_default}
use Rattle.test_words.proofs.Read.{closed-by, closed-not}
use Rattle.test_words.proofs.close.Goals as goal

pub returns-then-text-e-eq47 : goal.returns-then-text-e-eq47
returns-then-text-e-eq47 c = c.whole.ensures ∙ closed-by c.args.unit (get_or c.args.text.now c.args.e 0) c.args.n c.if-text-e-eq47.true

pub returns-else-text-e-eq47 : goal.returns-else-text-e-eq47
returns-else-text-e-eq47 c = closed-not c.args.unit (get_or c.args.text.now c.args.e 0) c.args.n c.if-text-e-eq47.false

pub returns-else-e-text : goal.returns-else-e-text
returns-else-e-text c = let a = c.args in
    closed-not c.args.unit (get_or c.args.text.now c.args.e 0) c.args.n (λ e. (let z : ◌≡◌ {A = ℕ} 0 47 = sym (get_or-eq_default a.text.now 0 {n = a.e} (omega arith)) ∙ e in absurd (omega arith)))
