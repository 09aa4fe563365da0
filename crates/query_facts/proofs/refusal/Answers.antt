-- `facts::refusal` meets its contract.
use mathlib.Core.Path.{◌∙◌}
use Rattle.sheet_format.specs.Table.{table_in}
use Rattle.query_facts.proofs.Laws.{count_wrong, count-over, count-right}
use Rattle.query_facts.proofs.refusal.Goals as goal

pub returns-then-fs-ne0 : goal.returns-then-fs-ne0
returns-then-fs-ne0 c = count_wrong (table_in c.args.table.now) c.args.fs.now c.if-fs-ne0.true

pub returns-then-fs-gt-MOST_FACT_WORDS : goal.returns-then-fs-gt-MOST_FACT_WORDS
returns-then-fs-gt-MOST_FACT_WORDS c = count-over (table_in c.args.table.now) c.args.fs.now c.if-fs-ne0.false c.if-fs-gt-MOST_FACT_WORDS.true

pub returns : goal.returns
returns c = c.by_facts.ensures ∙ count-right (table_in c.args.table.now) c.args.fs.now c.if-fs-ne0.false c.if-fs-gt-MOST_FACT_WORDS.false
