-- What is said of each verdict.
use Rattle.std.proofs.Common.{◌≡◌, refl, sym, subst}
use Rattle.sheet_format.specs.Table.{table_in}
use Rattle.judge_result.specs.declared.Verdict.TheVariants.{Covered, NotCovered, NoLog}
use Rattle.judge_result.specs.Returns.{judgement_from_verdict}
use Rattle.text_buffer.specs.Words.{bytes}
use Rattle.text_buffer.proofs.Laws.{said}
use Rattle.text_judgement.specs.Verdict.{verdict_bytes, case_bytes}
use Rattle.text_judgement.proofs.Calls.{covered, no_log, case_said}
use Rattle.text_judgement.proofs.put_verdict.Goals as goal

pub returns-in-Covered : goal.returns-in-Covered
returns-in-Covered c = let a = c.args in
    said (subst (λ v. bytes "covered\n" ≡ verdict_bytes (table_in a.table.now) a.columns (judgement_from_verdict v) a.facts.now) (sym c.in-Covered.is) (covered (table_in a.table.now) a.columns (judgement_from_verdict Covered) a.facts.now refl)) c.put.ensures

pub returns-in-NoLog : goal.returns-in-NoLog
returns-in-NoLog c = let a = c.args in
    said (subst (λ v. bytes "no log gives these rows\n" ≡ verdict_bytes (table_in a.table.now) a.columns (judgement_from_verdict v) a.facts.now) (sym c.in-NoLog.is) (no_log (table_in a.table.now) a.columns (judgement_from_verdict NoLog) a.facts.now refl)) c.put-in-NoLog.ensures

pub returns-in-NotCovered : goal.returns-in-NotCovered
returns-in-NotCovered c = let a = c.args in
    let v = c.in-NotCovered in
    said (subst (λ x. case_bytes (table_in a.table.now) a.columns v.missing v.count a.facts.now ≡ verdict_bytes (table_in a.table.now) a.columns (judgement_from_verdict x) a.facts.now) (sym v.is) (case_said (table_in a.table.now) a.columns v.count v.missing a.facts.now)) c.put_case.ensures
