-- `facts::by_facts` meets its contract. The loop's invariant: going on from fact i gives what all facts give.
use mathlib.Core.Path.{◌≡◌}
use mathlib.Core.List.{[]}
use lib.ListN.{drop}
use Rattle.sheet_format.specs.Table.{table_in}
use Rattle.query_meaning.specs.Facts.{fact_by_fact, facts_in}
use Rattle.query_facts.specs.Parts.{fact_before}
use Rattle.query_facts.proofs.by_facts.Given as goal

abbrev pub invariant-loop-i : goal.invariant-loop-i
invariant-loop-i l = fact_by_fact (table_in l.table) (fact_before (facts_in l.fs) l.i) (drop l.i (facts_in l.fs)) ≡ fact_by_fact (table_in l.table) [] (facts_in l.fs)
