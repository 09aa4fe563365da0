use native.Mathlib.Omega.{arith}
use Rattle.text_tokens.proofs.Names.{mark-none, mark-some}
use Rattle.text_tokens.proofs.mark.Goals as goal

pub returns-in_default : goal.returns-in_default
returns-in_default c = mark-none c.args.token.now (omega arith)

pub returns : goal.returns
returns c = mark-some c.args.token.now (λ e. omega arith) c.kind_of-kind.ensures c.letter.ensures c.value.ensures
