use mathlib.Core.Path.{sym, ◌∙◌}
use Prim.Native.Nat.{◌<◌}
use native.Mathlib.Omega.{arith}
use borrow.Author.Tests.{not-true, not-false}
use lib.ListN.{length}
use Rattle.sheet_format.specs.Table.{table_in}
use Rattle.query_meaning.specs.Facts.{facts_in}
use Rattle.query_facts.proofs.Laws.{facts-length, fact_wrong, fact-low, fact-goes, facts-end}
use Rattle.query_facts.proofs.by_facts.Goals as goal

pub returns-then-is_wrong : goal.returns-then-is_wrong
returns-then-is_wrong c = let l = c.loop-i in
    fact_wrong (table_in c.args.table.now) (facts_in c.args.fs.now) l.i ((let h1 : (c.loop-i.i < length (facts_in c.args.fs.now)) = let n = facts-length c.args.fs.now in omega arith in h1)) (sym c.is_wrong.ensures ∙ c.if-is_wrong.true) ∙ l.invariant

pub returns-then-not-in_order : goal.returns-then-not-in_order
returns-then-not-in_order c = let l = c.loop-i in
    fact-low (table_in c.args.table.now) (facts_in c.args.fs.now) l.i ((let h2 : (c.loop-i.i < length (facts_in c.args.fs.now)) = let n = facts-length c.args.fs.now in omega arith in h2)) (sym c.is_wrong.ensures ∙ c.if-is_wrong.false)
    (sym c.in_order.ensures ∙ not-true c.in_order.result c.if-not-in_order.true-raw)
    ∙ l.invariant

pub loop-i-preserved : goal.loop-i-preserved
loop-i-preserved c = let l = c.loop-i in
    fact-goes (table_in c.args.table.now) (facts_in c.args.fs.now) l.i ((let h3 : (c.loop-i.i < length (facts_in c.args.fs.now)) = let n = facts-length c.args.fs.now in omega arith in h3)) (sym c.is_wrong.ensures ∙ c.if-is_wrong.false)
    (sym c.in_order.ensures ∙ not-false c.in_order.result c.if-not-in_order.false-raw)
    ∙ l.invariant

pub returns : goal.returns
returns c = let n = facts-length c.args.fs.now in
    facts-end (table_in c.args.table.now) (facts_in c.args.fs.now) c.loop-i.i (omega arith) ∙ c.loop-i.invariant
