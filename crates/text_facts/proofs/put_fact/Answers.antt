-- The relation's name, and a term for each of its columns.
use mathlib.Core.Path.{ap, ◌∙◌}
use borrow.Author.Rules.{rules}
use mathlib.Core.Path.{◌≡◌}
use Prim.Native.Nat.{◌<◌}
use lib.ListN.{length, get_or}
use lib.IntN.{pos}
use lib.Signed.{mag}
use Rattle.text_writer.proofs.Parts.{fact-parts}
use Rattle.text_buffer.proofs.Laws.{said, followed}
use Rattle.list_laws.proofs.Words.{word_back}
use Rattle.sheet_format.specs.Line.{natural}
use Rattle.sheet_format.specs.Table.{columns_of, table_in}
use Rattle.text_facts.proofs.put_fact.Goals as goal

pub returns : goal.returns
returns c = let t = table_in c.args.table.now in
    let ws = c.args.fact.now in
    let five : length ws ≡ 5 = search rules in
    let m : mag (get_or ws 0 (pos 0)) < 2147483648 = search rules in
    let b = word_back ws 0 m in
    let n = c.natural.ensures ∙ ap natural b in
    let k = c.columns.ensures ∙ ap (columns_of t) b in
    said (fact-parts t ws c.min-columns.result five n k c.min-columns.ensures) (followed c.put_relation-n.ensures c.put_terms.ensures)
