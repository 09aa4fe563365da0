-- The first values of the answer.
use Rattle.std.proofs.Common.{ap, ◌∙◌, rules, w32}
use Rattle.text_buffer.proofs.Laws.{said}
use Rattle.text_writer.specs.Texts.{terms_bytes}
use Rattle.list_laws.proofs.Words.{back}
use Rattle.text_judgement.proofs.Calls.{some-values}
use Rattle.text_judgement.proofs.put_missing.Goals as goal

pub returns : goal.returns
returns c =
    said
    (ap terms_bytes
    (some-values c.args.columns c.min-some.result c.args.missing (search rules) c.min-some.ensures
    (back {w = w32} (record { sfits = c.word.type_inv }) ∙ c.word.ensures)
    (back {w = w32} (record { sfits = c.word-2.type_inv }) ∙ c.word-2.ensures)
    (back {w = w32} (record { sfits = c.word-3.type_inv }) ∙ c.word-3.ensures)
    (back {w = w32} (record { sfits = c.word-4.type_inv }) ∙ c.word-4.ensures)))
    c.put_terms.ensures
