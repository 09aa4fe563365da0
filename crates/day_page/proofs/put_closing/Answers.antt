-- One total after the other, and byte 10.
use mathlib.Core.Path.{ap, sym, ◌∙◌}
use lib.IntN.{pos}
use native.Mathlib.Omega.{arith}
use mathlib.Core.List.{[], ◌∷◌}
use Rattle.sheet_format.specs.Field.{field_bytes}
use Rattle.text_buffer.proofs.Laws.{said}
use Rattle.day_page.specs.Page.{tally, sum_of_facts, closing_line}
use lib.ListN.{length-map}
use Rattle.judge_ends.specs.Returns.{judgement_at, judgements_at}
use Rattle.day_page.proofs.Laws.{tally_at, facts_at, sum_few, first_field, next_field, line-end}
use Rattle.day_page.proofs.put_closing.Goals as goal

pub fact_sum-requires : goal.fact_sum-requires
fact_sum-requires c = let ps = c.args.sheets.now in
    let js = judgements_at ps in
    let l = length-map ps judgement_at in
    let e = facts_at ps in
    let few = sum_few js c.requires.1 in
    omega arith

pub put_number-e-requires : goal.put_number-e-requires
put_number-e-requires c = let ps = c.args.sheets.now in
    let js = judgements_at ps in
    let l = length-map ps judgement_at in
    let e = facts_at ps in
    let few = sum_few js c.requires.1 in
    omega arith

pub returns : goal.returns
returns c = let a = c.args in
    let ps = a.sheets.now in
    let js = judgements_at ps in
    let t0 = pos (tally 0 js) in
    let t1 = pos (tally 1 js) in
    let t2 = pos (tally 2 js) in
    let t9 = pos (tally 9 js) in
    let one = first_field t0 (said (ap (λ n. field_bytes (pos n)) (c.tally.ensures ∙ sym (tally_at 0 ps))) c.put_number-a.ensures) in
    let two = next_field (t0 ∷ []) t1 one (said (ap (λ n. field_bytes (pos n)) (c.tally-2.ensures ∙ sym (tally_at 1 ps))) c.put_number-b.ensures) in
    let three = next_field (t0 ∷ t1 ∷ []) t2 two (said (ap (λ n. field_bytes (pos n)) (c.tally-3.ensures ∙ sym (tally_at 2 ps))) c.put_number-c.ensures) in
    let four = next_field (t0 ∷ t1 ∷ t2 ∷ []) t9 three (said (ap (λ n. field_bytes (pos n)) (c.tally-4.ensures ∙ sym (tally_at 9 ps))) c.put_number-d.ensures) in
    let five = next_field (t0 ∷ t1 ∷ t2 ∷ t9 ∷ []) (pos (sum_of_facts js)) four (said (ap (λ n. field_bytes (pos n)) (c.fact_sum.ensures ∙ sym (facts_at ps))) c.put_number-e.ensures) in
    line-end (closing_line js) five c.put_byte.ensures
