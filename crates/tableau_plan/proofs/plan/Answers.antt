use mathlib.Core.Path.{◌∙◌, subst}
use native.Mathlib.Omega.{arith}
use lib.ListN.{length}
use Prim.Native.Nat.{◌/◌}
use Rattle.sheet_format.proofs.WordLines.{lines-length}
use Rattle.sheet_format.specs.Line.{word_lines}
use Rattle.query_blocks.specs.Parts.{AcceptedLines}
use Rattle.tableau_plan.specs.Parts.{Closed}
use Rattle.sheet_format.specs.Table.{table_in}
use Rattle.tableau_plan.proofs.Laws.{closed-kept, table-stands}
use Rattle.tableau_plan.proofs.Whole.{plan_of}
use borrow.Author.Rules.{rules}
use Rattle.tableau_plan.proofs.plan.Goals as goal

pub returns : goal.returns
returns c = record {
  plan = λ long ok.
      let w = c.args.ws.now in
      let table = c.args.table.now in
      let k = c.count_lists-lists in
      let b = c.put_blocks-blocks in
      let r = c.put_rows-listed in
      let q = c.put_copy-asked in
      let t = c.put_tableau-atoms in
      let n = c.put_counts in
      let e = c.put_numbers in
      let p = e.new.p in
      let l = lines-length w in
      let accepted : AcceptedLines (word_lines w) = (table_in table, ok) in
      let (v, d) = r.ensures.2 accepted in
      let counts = subst (λ m. Closed t.new.p n.new.p t.result q.result r.result k.result m) c.views_of.ensures n.ensures in
      let closed = closed-kept t.new.p n.new.p p t.result q.result r.result k.result _ counts e.ensures.0 in
      let size = closed.same ∙ t.ensures.1.same ∙ q.ensures.1.same ∙ r.ensures.1.same ∙ b.ensures.0 in
      plan_of (table_in table) (word_lines w) ok b.new.p r.new.p q.new.p t.new.p p b.result k.result (length w / 7) v r.result q.result t.result b.ensures.0 (k.ensures accepted) (b.ensures.1 accepted (k.ensures accepted)) r.ensures.1 r.ensures.0 (omega arith) d
      q.ensures.1 q.ensures.2 t.ensures.1 t.ensures.0 t.ensures.2 closed (table-stands p table size (search rules) e.ensures.1);
  p_unchanged = λ other. absurd (other c.if-p-ne-PLAN_NUMBERS.false);
}
