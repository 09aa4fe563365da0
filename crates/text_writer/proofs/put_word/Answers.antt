-- The field without its blanks.
use mathlib.Core.Path.{ap, ◌∙◌}
use Rattle.text_buffer.proofs.Laws.{said}
use Rattle.text_writer.specs.Texts.{word_bytes, without_blanks}
use Rattle.list_laws.proofs.Words.{back}
use Rattle.sheet_format.specs.Field.{field_bytes}
use Rattle.text_writer.proofs.put_word.Goals as goal

pub returns : goal.returns
unfolding word_bytes
returns c = said (ap without_blanks (c.field_bytes-field.ensures ∙ ap field_bytes (back c.ranges.w))) c.put_plain.ensures
