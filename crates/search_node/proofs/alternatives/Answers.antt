use mathlib.Core.Path.{sym, ◌∙◌}
use native.Mathlib.Omega.{arith}
use Rattle.search_node.proofs.Choices.{many-rows, many-each, many-one}
use borrow.Author.Rules.{rules}
use Rattle.search_node.proofs.alternatives.Goals as goal

pub returns-then-kind-eq-ROWS : goal.returns-then-kind-eq-ROWS
returns-then-kind-eq-ROWS c = let a = c.args in let m = many-rows a.node.now a.p.now c.if-kind-eq-ROWS.true in let l = c.row_count.ensures in
    record { limited = l.limited; exact = λ few. l.exact (let z = m in omega arith) ∙ sym m }

pub returns-then-kind-ne-EACH : goal.returns-then-kind-ne-EACH
returns-then-kind-ne-EACH c = let a = c.args in let m = many-one a.node.now a.p.now c.if-kind-eq-ROWS.false c.if-kind-ne-EACH.true in
    record { limited = omega arith; exact = λ few. sym m }

pub returns-then-count-lt-COLUMNS : goal.returns-then-count-lt-COLUMNS
returns-then-count-lt-COLUMNS c = let a = c.args in let m = many-each a.node.now a.p.now c.if-kind-ne-EACH.false in let z = c.if-count-lt-COLUMNS.true in
    record { limited = omega arith; exact = λ few. omega arith }

pub returns : goal.returns
returns c = let a = c.args in let m = many-each a.node.now a.p.now c.if-kind-ne-EACH.false in let z = c.if-count-lt-COLUMNS.false in
    record { limited = omega arith; exact = λ few. omega arith }
