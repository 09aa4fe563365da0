-- The fact, and what the next line asks for.
use mathlib.Core.Path.{◌≡◌, ◌∙◌}
use lib.ListN.{length}
use borrow.Author.Rules.{rules}
use Rattle.text_writer.proofs.Parts.{where_is, unless_is}
use Rattle.text_lines.proofs.Facts.{line-fact}
use Rattle.text_buffer.proofs.Laws.{said, followed, nothing}
use Rattle.sheet_format.specs.Table.{table_in}
use Rattle.text_writer.specs.Texts.{if}
use Rattle.text_buffer.specs.Words.{bytes}
use lib.Dec.{eqb}
use mathlib.Core.List.{[]}
use Rattle.text_lines.proofs.put_atom.Goals as goal

pub returns-then-next-eq-ATOM_KIND : goal.returns-then-next-eq-ATOM_KIND
returns-then-next-eq-ATOM_KIND c = let a = c.args in
    let seven : length a.line.now ≡ 7 = search rules in
    let f = said (line-fact (table_in a.table.now) a.line.now seven) c.put_facts-m.ensures in
    let n = said (where_is (if (eqb a.block 3) (bytes " =")) c.if-next-eq-ATOM_KIND.true) c.put_byte.ensures in
    followed (followed c.put_byte-n.ensures f) n

pub returns-then-block-eq-VIEW_KIND : goal.returns-then-block-eq-VIEW_KIND
returns-then-block-eq-VIEW_KIND c = let a = c.args in
    let seven : length a.line.now ≡ 7 = search rules in
    let f = said (line-fact (table_in a.table.now) a.line.now seven) c.put_facts-m.ensures in
    let n = said (where_is [] c.if-block-eq-VIEW_KIND.true ∙ unless_is (bytes ",") c.if-next-eq-ATOM_KIND.false) c.put.ensures in
    followed (followed c.put_byte-n.ensures f) n

pub returns : goal.returns
returns c = let a = c.args in
    let seven : length a.line.now ≡ 7 = search rules in
    let f = said (line-fact (table_in a.table.now) a.line.now seven) c.put_facts-m.ensures in
    let n = said (unless_is (bytes " =") c.if-block-eq-VIEW_KIND.false ∙ unless_is (bytes ",") c.if-next-eq-ATOM_KIND.false) (nothing c.put_facts-m.new.out c.put_facts-m.result) in
    followed (followed c.put_byte-n.ensures f) n
