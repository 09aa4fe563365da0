use Rattle.std.proofs.Common.{refl, rules}
use mathlib.Core.Path.{subst}
use Rattle.std.specs.Prelude.{Ok, Err}
use Rattle.sheet_format.proofs.Endings.{named}
use Rattle.sheet_table.specs.Loads.{Loads, loaded_of}
use Rattle.judge_result.specs.Returns.{judgement_from_result}
use Rattle.judge.proofs.Ways.{table-sent, table_taken}
use Rattle.judge.proofs.judge_loaded.Goals as goal

pub returns-in_err-numbers : goal.returns-in_err-numbers
returns-in_err-numbers c = let a = c.args in
    let r = c.in_err-numbers.field-0.0 in
    λ tb loads. let h = table-sent tb a.sheet.now (loaded_of (Err r)) (subst (λ t. Loads tb (loaded_of t)) c.in_err-numbers.was loads) a.out.now _ (named r.cause) refl in search rules

pub returns : goal.returns
returns c = let j = c.judge_numbers in
    let a = c.args in
    λ tb loads. table_taken tb a.sheet.now (loaded_of (Ok c.in_ok-numbers.numbers)) (subst (λ t. Loads tb (loaded_of t)) c.in_ok-numbers.was loads) a.out.now j.new.out (judgement_from_result j.result) refl j.ensures
