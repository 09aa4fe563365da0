-- The byte after the blanks tells, where there is one.
use mathlib.Core.Path.{◌≡◌, ◌∙◌}
use native.Mathlib.Omega.{arith}
use borrow.Author.Tests.{le-ltb}
use Rattle.text_begins.specs.Begins.{leading_blanks}
use Rattle.text_begins.proofs.Laws.{told-by, told_none}
use Rattle.text_begins.proofs.is_text.Goals as goal

pub returns-then-at-given : goal.returns-then-at-given
returns-then-at-given c = let s = c.args.given.now in
    let e : c.blanks-at.result ≡ leading_blanks s = c.blanks-at.ensures.1 in
    c.begins.ensures ∙ rw e (told-by s (omega arith))

pub returns-else-at-given : goal.returns-else-at-given
returns-else-at-given c = le-ltb _ _ c.if-at-given.false ∙ told_none c.args.given.now (omega arith)
