use native.Mathlib.Omega.{arith}
use borrow.Author.Tests.{leb-false}
use Rattle.sheet_format.specs.Limits.{most_lists, most_rows, most_views}
use Rattle.sheet_format.specs.Cause.{atoms_of}
use Rattle.sheet_format.specs.Returns.{kind_number}
use Rattle.sheet_line_causes.proofs.Words.{is-question, is-saved, is_view, is-atom, is_row, other-kind}
use Rattle.sheet_line_causes.proofs.Lines.{atoms-most}
use Rattle.sheet_line_causes.proofs.next.Goals as goal

pub overflow_add-result : goal.overflow_add-result
overflow_add-result c = let h = leb-false most_lists c.args.g.lists (rw (is-saved c.ranges.kind c.in-2.in-2-own.keys2) at c.requires) in omega arith

pub overflow_add-result-in-3 : goal.overflow_add-result-in-3
overflow_add-result-in-3 c = let h = leb-false most_views c.args.g.views (rw (is_view c.ranges.kind c.in-3.in-3-own.keys3) at c.requires) in omega arith

pub overflow_add-result-in-4 : goal.overflow_add-result-in-4
overflow_add-result-in-4 c = let h = leb-false (atoms_of (kind_number c.args.g.block)) c.args.g.atoms (rw (is-atom c.ranges.kind c.in-4.in-4-own.keys4) at c.requires) in let m = atoms-most (kind_number c.args.g.block) in omega arith

pub overflow_add-result-in-5 : goal.overflow_add-result-in-5
overflow_add-result-in-5 c = let h = leb-false most_rows c.args.g.rows (rw (is_row c.ranges.kind c.in-5.in-5-own.keys5) at c.requires) in omega arith

pub returns-in-1 : goal.returns-in-1
returns-in-1 c = rw (is-question c.ranges.kind c.in-1.in-1-own.keys1)

pub returns-in-2 : goal.returns-in-2
returns-in-2 c = rw (is-saved c.ranges.kind c.in-2.in-2-own.keys2)

pub returns-in-3 : goal.returns-in-3
returns-in-3 c = rw (is_view c.ranges.kind c.in-3.in-3-own.keys3)

pub returns-in-4 : goal.returns-in-4
returns-in-4 c = rw (is-atom c.ranges.kind c.in-4.in-4-own.keys4)

pub returns-in-5 : goal.returns-in-5
returns-in-5 c = rw (is_row c.ranges.kind c.in-5.in-5-own.keys5)

pub returns-in-minus2147483648-to-0 : goal.returns-in-minus2147483648-to-0
returns-in-minus2147483648-to-0 c = let r = c.in-minus2147483648-to-0.in-minus2147483648-to-0-own.rest in
    rw (other-kind c.args.kind r.0.0.0.0.1 r.0.0.0.1 r.0.0.1 r.0.1 r.1)
