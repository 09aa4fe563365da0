-- The judgement by the table's numbers is the one by its bytes.
use Rattle.std.proofs.Common.{◌≡◌, ℕ, length, arith, rules}
use Rattle.query_meaning.specs.Evaluate.{answer_word_count}
use Rattle.text_judgement.specs.Verdict.{Verdict}
use Rattle.text_judgement.proofs.Calls.{told}
use Rattle.text_answer.proofs.Calls.{by_bytes, judged_in}
use Rattle.std.specs.Prelude.{Ok}
use Rattle.sheet_table.specs.Loads.{loaded_of}
use Rattle.judge_result.specs.Returns.{judgement_from_result}
use Rattle.text_answer.proofs.verdict.Goals as goal

pub returns : goal.returns
returns c = λ tb h z.
    let a = c.args in
    let j = c.judge_loaded-j in
    let p = c.put_judgement in
    let m : length (judgement_from_result j.result).missing ≡ answer_word_count = search rules in
    by_bytes (λ t. Verdict t a.sheet.now a.out.now p.new.out p.result) tb (loaded_of (Ok a.table.now)) h z
    (told a.table.now a.sheet.now j.new.out (judgement_from_result j.result) (judged_in tb (loaded_of (Ok a.table.now)) h z (j.ensures tb h)) m j.auto.out a.out.now p.new.out p.result (omega arith) c.columns.result c.columns.ensures p.ensures)
