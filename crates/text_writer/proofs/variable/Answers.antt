use mathlib.Core.Path.{ap, ◌∙◌}
use Prim.Native.Nat.{ℕ, ◌+◌}
use Rattle.text_writer.proofs.Parts.{letter_at}
use Rattle.text_writer.proofs.variable.Goals as goal

pub returns : goal.returns
returns c = ap (λ (n : ℕ). 96 + n) c.clamp.ensures ∙ letter_at c.args.index
