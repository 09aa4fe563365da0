-- The least word, one that is too large, and any other.
use native.Mathlib.Omega.{arith}
use Rattle.test_words.proofs.Read.{below-least, below_large, below-small}
use Rattle.test_words.proofs.below.Goals as goal

pub returns-then-n-eq2147483648 : goal.returns-then-n-eq2147483648
returns-then-n-eq2147483648 c = below-least c.args.n c.if-n-eq2147483648.true

pub returns-then-n-gt2147483648 : goal.returns-then-n-gt2147483648
returns-then-n-gt2147483648 c = below_large c.args.n (omega arith)

pub returns : goal.returns
returns c = below-small c.args.n ((omega arith))
