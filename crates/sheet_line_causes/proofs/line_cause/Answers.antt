use lib.ListN.{get_or}
use lib.IntN.{pos}
use Rattle.sheet_format.specs.Table.{table_in}
use mir.Syntax.{w32}
use mir.Val.{SFits}
use Rattle.sheet_line_causes.proofs.Words.{is-question, is-saved, is_view, is-atom, is_row, other-kind}
use borrow.Author.Rules.{rules}
use Rattle.sheet_line_causes.proofs.line_cause.Goals as goal

pub returns-in-1 : goal.returns-in-1
returns-in-1 c = rw (is-question ((let h1 : (SFits w32 (get_or c.args.words.now 1 (pos 0))) = record { sfits = c.kind-1.given } in h1)) c.in-1.in-1-own.keys1) (c.question_cause.ensures (table_in c.args.table.now))

pub returns-in-2 : goal.returns-in-2
returns-in-2 c = rw (is-saved ((let h2 : (SFits w32 (get_or c.args.words.now 1 (pos 0))) = record { sfits = c.kind-1.given } in h2)) c.in-2.in-2-own.keys2) (c.saved_cause.ensures (table_in c.args.table.now))

pub returns-in-3 : goal.returns-in-3
returns-in-3 c = rw (is_view ((let h3 : (SFits w32 (get_or c.args.words.now 1 (pos 0))) = record { sfits = c.kind-1.given } in h3)) c.in-3.in-3-own.keys3) (c.view_cause.ensures (table_in c.args.table.now))

pub returns-in-4 : goal.returns-in-4
returns-in-4 c = rw (is-atom ((let h4 : (SFits w32 (get_or c.args.words.now 1 (pos 0))) = record { sfits = c.kind-1.given } in h4)) c.in-4.in-4-own.keys4) c.atom_cause.ensures

pub returns-in-5 : goal.returns-in-5
returns-in-5 c = rw (is_row ((let h5 : (SFits w32 (get_or c.args.words.now 1 (pos 0))) = record { sfits = c.kind-1.given } in h5)) c.in-5.in-5-own.keys5) (c.row_cause.ensures (table_in c.args.table.now))

pub returns-in-minus2147483648-to-0 : goal.returns-in-minus2147483648-to-0
returns-in-minus2147483648-to-0 c = let r = c.in-minus2147483648-to-0.in-minus2147483648-to-0-own.rest in
    rw (other-kind (get_or c.args.words.now 1 (pos 0)) r.0.0.0.0.1 r.0.0.0.1 r.0.0.1 r.0.1 r.1)
