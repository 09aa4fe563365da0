use mathlib.Core.Path.{refl, sym, ap, ◌∙◌}
use native.Mathlib.Omega.{arith}
use lib.ListN.{length}
use Rattle.sheet_format.specs.Table.{table_in}
use Rattle.sheet_format.specs.Cause.{refusal, none}
use Rattle.sheet_format.specs.Returns.{cause_number}
use Rattle.sheet_format.proofs.Endings.{named}
use Rattle.sheet_format.proofs.Returned.{write_numbers}
use Rattle.sheet_writer.proofs.Endings.{write_long, write_odd, write_refused, write_short, write_done}
use borrow.Author.Rules.{rules}
use Rattle.sheet_writer.proofs.write.Goals as goal

pub returns-then-words-gt-MOST_WORDS : goal.returns-then-words-gt-MOST_WORDS
returns-then-words-gt-MOST_WORDS c = let a = c.args in write_numbers (table_in a.table.now) a.words.now (length a.out.now) (write_long (table_in a.table.now) a.words.now a.out.now c.if-words-gt-MOST_WORDS.true)

pub returns-then-words-ne0 : goal.returns-then-words-ne0
returns-then-words-ne0 c = let a = c.args in write_numbers (table_in a.table.now) a.words.now (length a.out.now) (write_odd (table_in a.table.now) a.words.now a.out.now c.if-words-gt-MOST_WORDS.false c.if-words-ne0.true)

pub returns-in_err-refusal : goal.returns-in_err-refusal
returns-in_err-refusal c = let a = c.args in
    let r = c.in_err-refusal.field-0.0 in
    let h = write_numbers (table_in a.table.now) a.words.now (length a.out.now) (write_refused (table_in a.table.now) a.words.now a.out.now c.if-words-gt-MOST_WORDS.false c.if-words-ne0.false (refusal (cause_number r.cause) r.line) c.in_err-refusal.ensures (named r.cause)) in search rules

pub returns-then-out-lt-MOST_BYTES : goal.returns-then-out-lt-MOST_BYTES
returns-then-out-lt-MOST_BYTES c = let a = c.args in write_numbers (table_in a.table.now) a.words.now (length a.out.now) (write_short (table_in a.table.now) a.words.now a.out.now c.if-words-gt-MOST_WORDS.false c.if-words-ne0.false none c.in_ok-refusal.ensures refl c.if-out-lt-MOST_BYTES.true)

pub returns : goal.returns
returns c = let a = c.args in write_numbers (table_in a.table.now) a.words.now (length a.out.now) (write_done (table_in a.table.now) a.words.now a.out.now c.if-words-gt-MOST_WORDS.false c.if-words-ne0.false none c.in_ok-refusal.ensures refl c.if-out-lt-MOST_BYTES.false c.put_lines.new.out c.put_lines.result c.put_lines.ensures)
