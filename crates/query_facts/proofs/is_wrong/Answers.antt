-- `facts::is_wrong` meets its contract.
use mathlib.Core.Path.{◌≡◌, refl}
use Prim.Native.Nat.{◌≤◌, ◌*◌}
use native.Mathlib.Omega.{arith}
use borrow.Author.Tests.{eq-eqb, ne_eqb, not-true, not-false}
use lib.IntN.{pos}
use lib.ListN.{get_or}
use Rattle.list_laws.proofs.Words.{word_back}
use Rattle.sheet_format.specs.Table.{columns_of, table_in}
use Rattle.sheet_terms.proofs.Laws.{columns-most}
use Rattle.query_facts.proofs.Laws.{wrong_told}
use Rattle.query_facts.proofs.is_wrong.Goals as goal

pub returns-then-columns-eq0 : goal.returns-then-columns-eq0
returns-then-columns-eq0 c = rw (eq-eqb c.columns-columns.result 0 c.if-columns-eq0.true) at (wrong_told c.args.fs.now c.args.i c.requires (table_in c.args.table.now) (columns-most c.args.table.now) c.columns-columns.result _ _ ((let h1 : (c.columns-columns.result ≡ columns_of (table_in c.args.table.now) (get_or c.args.fs.now (5 * c.args.i) (pos 0))) = let a = c.args in rw (word_back a.fs.now (5 * a.i) c.columns-arg-1.given) at c.columns-columns.ensures in h1)) refl refl)

pub overflow_add-unused-2 : goal.overflow_add-unused-2
overflow_add-unused-2 c = let m = (let h2 : (c.columns-columns.result ≤ 4) = rw ((let h3 : (c.columns-columns.result ≡ columns_of (table_in c.args.table.now) (get_or c.args.fs.now (5 * c.args.i) (pos 0))) = let a = c.args in rw (word_back a.fs.now (5 * a.i) c.columns-arg-1.given) at c.columns-columns.ensures in h3)) (columns-most c.args.table.now (get_or c.args.fs.now (5 * c.args.i) (pos 0))) in h2) in omega arith

pub all_in_range-requires : goal.all_in_range-requires
all_in_range-requires c = let m = (let h4 : (c.columns-columns.result ≤ 4) = rw ((let h5 : (c.columns-columns.result ≡ columns_of (table_in c.args.table.now) (get_or c.args.fs.now (5 * c.args.i) (pos 0))) = let a = c.args in rw (word_back a.fs.now (5 * a.i) c.columns-arg-1.given) at c.columns-columns.ensures in h5)) (columns-most c.args.table.now (get_or c.args.fs.now (5 * c.args.i) (pos 0))) in h4) in omega arith

pub returns-then-not-all_in_range : goal.returns-then-not-all_in_range
returns-then-not-all_in_range c = rw (ne_eqb c.columns-columns.result 0 c.if-columns-eq0.false, not-true c.all_in_range.result c.if-not-all_in_range.true-raw)
    at (wrong_told c.args.fs.now c.args.i c.requires (table_in c.args.table.now) (columns-most c.args.table.now) c.columns-columns.result c.all_in_range.result _ ((let h6 : (c.columns-columns.result ≡ columns_of (table_in c.args.table.now) (get_or c.args.fs.now (5 * c.args.i) (pos 0))) = let a = c.args in rw (word_back a.fs.now (5 * a.i) c.columns-arg-1.given) at c.columns-columns.ensures in h6)) c.all_in_range.ensures refl)

pub all_in_range-requires-2 : goal.all_in_range-requires-2
all_in_range-requires-2 c = let m = (let h7 : (c.columns-columns.result ≤ 4) = rw ((let h8 : (c.columns-columns.result ≡ columns_of (table_in c.args.table.now) (get_or c.args.fs.now (5 * c.args.i) (pos 0))) = let a = c.args in rw (word_back a.fs.now (5 * a.i) c.columns-arg-1.given) at c.columns-columns.ensures in h8)) (columns-most c.args.table.now (get_or c.args.fs.now (5 * c.args.i) (pos 0))) in h7) in omega arith

pub returns : goal.returns
returns c = rw (ne_eqb c.columns-columns.result 0 c.if-columns-eq0.false, not-false c.all_in_range.result c.if-not-all_in_range.false-raw)
    at (wrong_told c.args.fs.now c.args.i c.requires (table_in c.args.table.now) (columns-most c.args.table.now) c.columns-columns.result c.all_in_range.result c.all_in_range-2.result ((let h9 : (c.columns-columns.result ≡ columns_of (table_in c.args.table.now) (get_or c.args.fs.now (5 * c.args.i) (pos 0))) = let a = c.args in rw (word_back a.fs.now (5 * a.i) c.columns-arg-1.given) at c.columns-columns.ensures in h9)) c.all_in_range.ensures c.all_in_range-2.ensures)
