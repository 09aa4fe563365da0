-- What is said of a verdict, and of a refusal.
use Rattle.std.proofs.Common.{◌≡◌, refl, sym, ap, ◌∙◌, subst}
use Rattle.std.specs.Prelude.{Ok, Err}
use Rattle.sheet_format.specs.Returns.{cause_number}
use Rattle.sheet_format.specs.Table.{table_in}
use Rattle.judge_result.specs.Returns.{judgement_from_result}
use Rattle.text_buffer.proofs.Laws.{said}
use Rattle.text_writer.specs.Texts.{refusal_bytes}
use Rattle.text_judgement.specs.Verdict.{verdict_bytes}
use Rattle.text_judgement.proofs.Calls.{refused}
use Rattle.text_judgement.proofs.put_judgement.Goals as goal

pub returns-in-Ok : goal.returns-in-Ok
returns-in-Ok c = let a = c.args in
    said (ap (λ j. verdict_bytes (table_in a.table.now) a.columns (judgement_from_result j) a.facts.now) (sym c.in-Ok.is)) c.put_verdict.ensures

pub returns-in-Err : goal.returns-in-Err
returns-in-Err c = let a = c.args in
    let r = c.in-Err.refusal in
    said (ap (λ n. refusal_bytes n r.line 0) c.number.ensures ∙ subst (λ j. refusal_bytes (cause_number r.cause) r.line 0 ≡ verdict_bytes (table_in a.table.now) a.columns (judgement_from_result j) a.facts.now) (sym c.in-Err.is) (refused (table_in a.table.now) a.columns (judgement_from_result (Err r)) a.facts.now refl)) c.put_refusal.ensures
