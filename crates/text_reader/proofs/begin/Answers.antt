use borrow.Author.Rules.{rules}
use borrow.Author.Tests.{not-true, not-false}
use Rattle.text_reader.proofs.Steps.{begun-none, begun-head, begun-other}
use Rattle.text_reader.proofs.begin.Goals as goal

pub returns-then-s-lt-ATOM_KIND : goal.returns-then-s-lt-ATOM_KIND
returns-then-s-lt-ATOM_KIND c = begun-head _ _ (not-false _ c.if-not-s.false) c.begin_line-lines.ensures c.if-s-lt-ATOM_KIND.true

pub returns : goal.returns
returns c = begun-other _ _ (not-false _ c.if-not-s.false) c.begin_line-lines.ensures c.if-s-lt-ATOM_KIND.false
