use mathlib.Core.Path.{◌≡◌}
use mathlib.Core.Bool.{true}
use lib.Dec.{eqb}
use borrow.Author.Rules.{rules}
use Rattle.text_begins.specs.Begins.{letter_of}
use Rattle.text_meaning.specs.Numbers.{letter_number, control_of}
use Rattle.text_meaning.proofs.Tests.{so}
use Rattle.text_places.proofs.block_head.Goals as goal

pub returns-then-eq : goal.returns-then-eq
returns-then-eq c =
    let e : eqb (letter_number c.args.m.letter) (letter_of c.args.block) ≡ true = search rules in
    so _ e (c.head.ensures (control_of c.args.s))
