use mathlib.Core.Path.{ap, ◌∙◌}
use borrow.Author.Rules.{rules}
use Rattle.list_laws.proofs.Words.{back}
use Rattle.sheet_format.specs.Line.{natural}
use Rattle.query_meaning.specs.Blocks.{as_term}
use Rattle.query_encoding.specs.Encoding.{term_number}
use Rattle.query_blocks.proofs.Parts.{entry-relation, entry-term, entry-head}
use Rattle.query_blocks.proofs.entry.Goals as goal

pub returns-then-x-eq0 : goal.returns-then-x-eq0
returns-then-x-eq0 c = (rw (back {z = c.word_at.result} (record { sfits = c.word_at.type_inv })) at c.relation_number.ensures) ∙ ap natural c.word_at.ensures ∙ entry-relation c.args.ws.now c.args.h c.args.x c.if-x-lt-HEAD_AT.true c.if-x-eq0.true

pub returns-then-x-lt-HEAD_AT : goal.returns-then-x-lt-HEAD_AT
returns-then-x-lt-HEAD_AT c = (rw (back {z = c.word_at-then-x-lt-HEAD_AT.result} (record { sfits = c.word_at-then-x-lt-HEAD_AT.type_inv })) at c.term_number.ensures) ∙ ap (λ z. term_number (as_term z)) c.word_at-then-x-lt-HEAD_AT.ensures ∙ entry-term c.args.ws.now c.args.h c.args.x c.if-x-lt-HEAD_AT.true c.if-x-eq0.false

pub returns : goal.returns
returns c = (rw (back {z = c.word_at-2.result} (record { sfits = c.word_at-2.type_inv })) at c.term_number-2.ensures) ∙ ap (λ z. term_number (as_term z)) c.word_at-2.ensures ∙ entry-head c.args.ws.now c.args.h c.args.x c.if-x-lt-HEAD_AT.false
