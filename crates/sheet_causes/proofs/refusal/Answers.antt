-- `causes::refusal` meets its contract.
use mathlib.Core.Path.{◌≡◌, refl, sym, ap, ◌∙◌}
use mathlib.Core.List.{[]}
use Rattle.sheet_format.proofs.Endings.{named}
use Rattle.sheet_format.specs.Line.{word_lines}
use Rattle.sheet_format.specs.Table.{table_in}
use Rattle.sheet_format.specs.Cause.{start, scan}
use Rattle.sheet_causes.proofs.Laws.{scan-formed, refused-heads, refused-lines}
use borrow.Author.Rules.{rules}
use Rattle.sheet_causes.proofs.refusal.Goals as goal

pub returns-in_err-by_lines : goal.returns-in_err-by_lines
returns-in_err-by_lines c = let e = c.in_err-by_lines.ensures in
    let h = e ∙ refused-lines (table_in c.args.table.now) (word_lines c.args.ws.now) (λ q. named _ (ap (λ r. r.number) e ∙ q)) in search rules

pub by_heads-requires : goal.by_heads-requires
by_heads-requires c = scan-formed (table_in c.args.table.now) (word_lines c.args.ws.now) (ap (λ r. r.number) (sym c.in_ok-by_lines.ensures))

pub returns : goal.returns
returns c = c.by_heads.ensures ∙ refused-heads (table_in c.args.table.now) (word_lines c.args.ws.now) (ap (λ r. r.number) (sym c.in_ok-by_lines.ensures))
