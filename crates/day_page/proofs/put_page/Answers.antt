-- The lines of the sheets, and the closing line.
use Rattle.judge_ends.specs.Returns.{judgements_at}
use Rattle.day_page.proofs.Laws.{page_end}
use Rattle.day_page.proofs.put_page.Goals as goal

pub returns : goal.returns
returns c = page_end (judgements_at c.args.sheets.now) c.put_sheets-n.ensures c.put_closing.ensures
