use Rattle.std.proofs.Common.{refl, sym, rules}
use Rattle.sheet_format.specs.Returns.{cause_number}
use Rattle.sheet_format.proofs.Endings.{named}
use Rattle.judge_result.specs.Judged.{JudgedBy}
use Rattle.judge_ends.proofs.Laws.{parted}
use Rattle.judge_ends.specs.Returns.{judgements_at}
use Rattle.judge_set.proofs.Laws.{set-sent, set-taken}
use Rattle.judge_set.proofs.judge_set_loaded.Goals as goal

pub judge_places-sheets-requires : goal.judge_places-sheets-requires
judge_places-sheets-requires c = let a = c.args in
    parted a.bytes.now a.ends.now a.out.now (sym c.in_ok-set_refusal.ensures)

pub returns-in_err-set_refusal : goal.returns-in_err-set_refusal
returns-in_err-set_refusal c = let a = c.args in
    let r = c.in_err-set_refusal.field-0.0 in
    λ tb loads. let h = set-sent (JudgedBy tb) a.bytes.now a.ends.now a.out.now _ (cause_number r) c.in_err-set_refusal.ensures (named r) refl in search rules

pub returns : goal.returns
returns c = let a = c.args in
    let j = c.judge_places-sheets in
    λ tb loads. set-taken (JudgedBy tb) a.bytes.now a.ends.now a.out.now _ j.new.out (judgements_at j.result) (sym c.in_ok-set_refusal.ensures) (j.ensures tb loads) refl
