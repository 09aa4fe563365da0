-- A place within the words, or beyond them.
use native.Mathlib.Omega.{arith}
use mir.Syntax.{w32}
use mir.ValLaws.{to_z-of_z}
use Rattle.test_words.proofs.Read.{stores_within, stores_beyond}
use Rattle.test_words.proofs.store.Goals as goal

pub returns-then-at-out : goal.returns-then-at-out
returns-then-at-out c = rw (to_z-of_z w32 _ c.ranges.w) (stores_within c.args.out.now c.args.at c.args.w (omega arith))

pub returns : goal.returns
returns c = stores_beyond c.args.out.now c.args.at c.args.w (omega arith)
