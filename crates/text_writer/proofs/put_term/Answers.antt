-- A variable is put by its letter, any other word by its number.
use mathlib.Core.Path.{ap, ◌∙◌}
use Rattle.text_writer.proofs.Parts.{term-variable, term-constant, term-other}
use Rattle.text_buffer.proofs.Laws.{said}
use Rattle.list_laws.proofs.Words.{back}
use Rattle.sheet_format.specs.Returns.{term_in}
use Rattle.sheet_format.specs.Cause.{term_of}
use Rattle.text_writer.specs.Texts.{word_bytes}
use Rattle.text_writer.proofs.put_term.Goals as goal

pub returns-in-Some-Variable : goal.returns-in-Some-Variable
returns-in-Some-Variable c = said (term-variable c.args.w (c.term_of.ensures ∙ ap term_of (back c.ranges.w)) (ap term_in (rw c.in-Some-Variable.field-0-is at c.in-Some-Variable.is)) c.variable.ensures) c.put_byte.ensures

pub returns-in-Some-Constant : goal.returns-in-Some-Constant
returns-in-Some-Constant c = let b = back c.ranges.w in
    said (ap word_bytes b ∙ term-constant c.args.w (c.term_of.ensures ∙ ap term_of b) (ap term_in (rw c.in-Some-Constant.field-0-is at c.in-Some-Constant.is))) c.put_word.ensures

pub returns-in-None : goal.returns-in-None
returns-in-None c = let b = back c.ranges.w in
    said (ap word_bytes b ∙ term-other c.args.w (c.term_of.ensures ∙ ap term_of b) (ap term_in c.in-None.is)) c.put_word-in-None.ensures
