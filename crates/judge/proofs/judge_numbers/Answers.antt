use mathlib.Core.Path.{◌≡◌, refl, sym, ap, ◌∙◌}
use mathlib.Core.Logic.{⊎_elim}
use Prim.Native.Nat.{ℕ, ◌≤◌, ◌<◌, ◌-◌, ◌%◌, ◌+◌, ◌*◌}
use native.Mathlib.Omega.{arith}
use lib.ListN.{length, get_or}
use borrow.Author.Rules.{rules}
use lib.Seq.{length-take-le}
use Rattle.sheet_format.specs.Returns.{cause_number, ending_of}
use Rattle.sheet_format.specs.Table.{table_in}
use Rattle.sheet.proofs.Calls.{few-lines, lines-read, read-clean}
use Rattle.judge_result.specs.Returns.{judgement_from_result}
use Rattle.judge.proofs.Ways.{judged-sent, judged-read}
use Rattle.judge.proofs.judge_numbers.Goals as goal

pub overflow_mul-ws : goal.overflow_mul-ws
overflow_mul-ws c = let a = c.args in
    let rd = c.read in
    let m = c.in_ok-lines.lines in
    let done = sym c.in_ok-lines.ensures.0 in
    let f = few-lines (table_in a.table.now) a.sheet.now m done in
    let k = rd.auto.out in
    omega arith

pub slice_bounds-ws-end : goal.slice_bounds-ws-end
slice_bounds-ws-end c = let a = c.args in
    let rd = c.read in
    let m = c.in_ok-lines.lines in
    let done = sym c.in_ok-lines.ensures.0 in
    let f = few-lines (table_in a.table.now) a.sheet.now m done in
    let k = rd.auto.out in
    omega arith

pub slice_bounds-judge_words-end : goal.slice_bounds-judge_words-end
slice_bounds-judge_words-end c = let a = c.args in
    let rd = c.read in
    let m = c.in_ok-lines.lines in
    let done = sym c.in_ok-lines.ensures.0 in
    let f = few-lines (table_in a.table.now) a.sheet.now m done in
    let k = rd.auto.out in
    sym (length-take-le (m * 7) rd.new.out (omega arith))

pub judge_words-requires : goal.judge_words-requires
judge_words-requires c = let a = c.args in
    let rd = c.read in
    let m = c.in_ok-lines.lines in
    let done = sym c.in_ok-lines.ensures.0 in
    let f = few-lines (table_in a.table.now) a.sheet.now m done in
    let k = rd.auto.out in
    read-clean (table_in a.table.now) a.sheet.now m done _ rd.new.out refl rd.ensures.1

pub returns : goal.returns
returns c = let a = c.args in
    let rd = c.read in
    let m = c.in_ok-lines.lines in
    let done = sym c.in_ok-lines.ensures.0 in
    let f = few-lines (table_in a.table.now) a.sheet.now m done in
    let k = rd.auto.out in
    λ sound. judged-read (table_in a.table.now) a.sheet.now a.out.now c.judge_words.new.out m _ (judgement_from_result c.judge_words.result) done (lines-read (table_in a.table.now) a.sheet.now m done _ refl rd.new.out rd.ensures.1) (c.judge_words.ensures sound)

pub returns-in_err-lines : goal.returns-in_err-lines
returns-in_err-lines c = let a = c.args in
    let r = c.in_err-lines.field-0.0 in
    λ sound. let h = judged-sent (table_in a.table.now) a.sheet.now a.out.now (cause_number r.cause) r.line _ c.in_err-lines.ensures.0 refl _ refl in search rules
