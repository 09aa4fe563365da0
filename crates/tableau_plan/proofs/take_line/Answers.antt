use mathlib.Core.Path.{sym, ◌∙◌}
use native.Mathlib.Omega.{arith}
use Rattle.tableau_layout.specs.Layout.{blocks_at, rows_at}
use Rattle.list_laws.proofs.Ranges.{kept-none}
use Rattle.sheet_format.proofs.WordLines.{lines-length}
use Rattle.sheet_format.specs.Line.{word_lines}
use Rattle.tableau_plan.proofs.Taken.{done-view, done-other, one_left, few-listed, kind-view, kind_row, kind-no-view, kind-no-row, row_kept, row-taken}
use Rattle.tableau_plan.proofs.take_line.Goals as goal

pub returns-then-kind-eq-VIEW_KIND : goal.returns-then-kind-eq-VIEW_KIND
returns-then-kind-eq-VIEW_KIND c = let a = c.args in
    let w = a.ws.now in
    let n = lines-length w in
    let k = c.number_at-kind.ensures in
    (omega arith, omega arith, kept-none a.p.now rows_at blocks_at, λ ok h. done-view a.p.now (word_lines w) a.i a.walk.views a.walk.rows (omega arith) h (kind-view w a.i (omega arith) ok (sym k ∙ c.if-kind-eq-VIEW_KIND.true)))

pub returns-then-kind-ne-ROW_KIND : goal.returns-then-kind-ne-ROW_KIND
returns-then-kind-ne-ROW_KIND c = let a = c.args in
    let w = a.ws.now in
    let n = lines-length w in
    let k = c.number_at-kind.ensures in
    (omega arith, omega arith, kept-none a.p.now rows_at blocks_at, λ ok h. done-other a.p.now (word_lines w) a.i a.walk.views a.walk.rows (omega arith) h (kind-no-view w a.i (omega arith) ok (λ e. c.if-kind-eq-VIEW_KIND.false (k ∙ e))) (kind-no-row w a.i (omega arith) ok (λ e. c.if-kind-ne-ROW_KIND.true (k ∙ e))))

pub returns-then-r-ge-MOST_ROWS : goal.returns-then-r-ge-MOST_ROWS
returns-then-r-ge-MOST_ROWS c = let a = c.args in
    let w = a.ws.now in
    let n = lines-length w in
    let k = c.number_at-kind.ensures in (
      omega arith,
      omega arith,
      kept-none a.p.now rows_at blocks_at,
      λ ok h.
          let f = few-listed (word_lines w) ok in
          let o = one_left a.p.now (word_lines w) a.i a.walk.views a.walk.rows (omega arith) h (kind_row w a.i (omega arith) ok (sym k ∙ c.if-kind-ne-ROW_KIND.false)) in
          absurd (omega arith),
    )

pub returns : goal.returns
returns c = let a = c.args in
    let w = a.ws.now in
    let v = c.put_values in
    let k = c.number_at-kind.ensures in
    let few = c.if-r-ge-MOST_ROWS.false in
    let is = c.if-kind-ne-ROW_KIND.false in (
      omega arith,
      omega arith,
      row_kept a.p.now v.new.p a.walk.rows c.saturating_sub.result few v.ensures.0,
      λ ok h. row-taken w a.i (omega arith) ok a.p.now v.new.p a.walk.views a.walk.rows c.saturating_sub.result few c.requires.1 v.ensures.0 v.ensures.1 c.saturating_sub.ensures (sym k ∙ is) h,
    )
