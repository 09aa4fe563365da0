use mathlib.Core.Path.{refl, sym}
use Prim.Native.Nat.{◌*◌}
use native.Mathlib.Omega.{arith}
use lib.Seq.{length-take-le}
use lib.ListN.{length}
use Rattle.sheet_format.specs.Table.{table_in}
use Rattle.sheet_format.specs.Cause.{refusal, none}
use Rattle.sheet_format.specs.Returns.{cause_number}
use Rattle.sheet_format.proofs.Endings.{named}
use Rattle.sheet_format.proofs.Returned.{read-numbers}
use Rattle.sheet_reader.proofs.Endings.{read-long, read-refused, read_short, read_fits, read_done}
use borrow.Author.Rules.{rules}
use Rattle.sheet_reader.proofs.read.Goals as goal

pub returns-then-sheet-gt-MOST_SHEET_BYTES : goal.returns-then-sheet-gt-MOST_SHEET_BYTES
returns-then-sheet-gt-MOST_SHEET_BYTES c = let a = c.args in read-numbers (table_in a.table.now) a.sheet.now (length a.out.now) (read-long (table_in a.table.now) c.args.sheet.now c.args.out.now c.if-sheet-gt-MOST_SHEET_BYTES.true)

pub returns-in_err-refusal : goal.returns-in_err-refusal
returns-in_err-refusal c = let a = c.args in
    let p = c.parse-n in
    let r = c.in_err-refusal.field-0.0 in
    let h = read-numbers (table_in a.table.now) a.sheet.now (length a.out.now) (read-refused (table_in a.table.now) a.sheet.now p.new.ws p.result p.ensures c.if-sheet-gt-MOST_SHEET_BYTES.false a.out.now (refusal (cause_number r.cause) r.line) c.in_err-refusal.ensures (named r.cause)) in search rules

pub returns-then-out-lt-MOST_WORDS : goal.returns-then-out-lt-MOST_WORDS
returns-then-out-lt-MOST_WORDS c = let a = c.args in
    let p = c.parse-n in
    read-numbers (table_in a.table.now) a.sheet.now (length a.out.now)
    (read_short (table_in a.table.now) a.sheet.now p.new.ws p.result p.ensures c.if-sheet-gt-MOST_SHEET_BYTES.false a.out.now
    none c.in_ok-refusal.ensures refl c.if-out-lt-MOST_WORDS.true)

pub copy-requires : goal.copy-requires
copy-requires c = let p = c.parse-n in
    let k = p.auto.ws in
    let f = p.ensures.few in
    let h = c.if-out-lt-MOST_WORDS.false in
    let a = c.args in
    let n = read_fits (table_in a.table.now) a.sheet.now p.new.ws p.result p.ensures c.if-sheet-gt-MOST_SHEET_BYTES.false none c.in_ok-refusal.ensures refl in
    (omega arith, omega arith)

pub returns : goal.returns
returns c = let a = c.args in
    let p = c.parse-n in
    read-numbers (table_in a.table.now) a.sheet.now (length a.out.now) (read_done (table_in a.table.now) a.sheet.now p.new.ws p.result p.ensures c.if-sheet-gt-MOST_SHEET_BYTES.false a.out.now c.copy.new.out none c.in_ok-refusal.ensures refl c.if-out-lt-MOST_WORDS.false c.copy.ensures)
