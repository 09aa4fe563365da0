-- Sent back: nothing lent is changed. Else the set is judged and its page is put.
use Rattle.std.proofs.Common.{refl, sym, arith, rules}
use Rattle.judge_result.specs.Judged.{JudgedBy}
use Rattle.judge_ends.specs.Returns.{set_judgement_from_result}
use Rattle.std.specs.Prelude.{length}
use Rattle.std.proofs.lemmas.List.{length-take}
use Rattle.judge_day.proofs.Laws.{shown_by, places-shown, no-set, day_sent, page-put}
use Rattle.judge_day.proofs.judge_day_loaded.Goals as goal

pub returns-in_err-day_refusal : goal.returns-in_err-day_refusal
returns-in_err-day_refusal c = let a = c.args in
    λ tb loads. let h = day_sent a.bytes.now a.ends.now a.out.now a.page.now (JudgedBy tb) c.in_err-day_refusal.field-0.0 c.in_err-day_refusal.ensures in search rules

pub returns-in_err-set : goal.returns-in_err-set
returns-in_err-set c = let a = c.args in
    λ tb loads. no-set a.bytes.now a.ends.now a.out.now a.page.now (JudgedBy tb) c.judge_set_loaded.new.out _ c.in_err-set.field-0.0 refl (sym c.in_ok-day_refusal.ensures) (c.in_err-set.ensures tb loads)

pub shared_ref_as_front-put_page : goal.shared_ref_as_front-put_page
shared_ref_as_front-put_page c = let a = c.args in
    let (tb, loads) = c.requires in
    let few = (places-shown a.bytes.now a.ends.now a.out.now a.page.now (JudgedBy tb) c.judge_set_loaded.new.out _ c.in_ok-set.set refl (shown_by tb) (sym c.in_ok-day_refusal.ensures) (c.in_ok-set.ensures tb loads)).0 in
    omega arith

pub put_page-n-requires : goal.put_page-n-requires
put_page-n-requires c = let a = c.args in
    let (tb, loads) = c.requires in
    let shown = places-shown a.bytes.now a.ends.now a.out.now a.page.now (JudgedBy tb) c.judge_set_loaded.new.out _ c.in_ok-set.set refl (shown_by tb) (sym c.in_ok-day_refusal.ensures) (c.in_ok-set.ensures tb loads) in
    let few = shown.0 in
    let taken = length-take (length a.ends.now) c.in_ok-set.set.sheets in
    (omega arith, shown.1)

pub returns : goal.returns
returns c = let a = c.args in
    λ tb loads. page-put a.bytes.now a.ends.now a.out.now a.page.now (JudgedBy tb) c.judge_set_loaded.new.out c.put_page-n.new.out c.in_ok-set.set c.put_page-n.result (sym c.in_ok-day_refusal.ensures) (c.in_ok-set.ensures tb loads) c.put_page-n.ensures
