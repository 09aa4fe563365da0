-- One field after the other, and byte 10.
use mathlib.Core.Path.{ap}
use lib.IntN.{pos}
use native.Mathlib.Omega.{arith}
use mathlib.Core.List.{[], ◌∷◌}
use borrow.Author.Rules.{rules}
use Rattle.day_page.specs.Page.{sheet_line}
use Rattle.sheet_format.specs.Field.{field_bytes}
use Rattle.text_buffer.proofs.Laws.{said}
use Rattle.judge_ends.specs.Returns.{judgement_at}
use Rattle.day_page.proofs.Laws.{first_field, next_field, line-end}
use Rattle.day_page.proofs.put_sheet.Goals as goal

pub returns : goal.returns
returns c = let a = c.args in
    let j = judgement_at a.place.now in
    let one = first_field (pos a.number) c.put_number-a.ensures in
    let two = next_field (pos a.number ∷ []) (pos j.verdict) one (said (ap (λ n. field_bytes (pos n)) c.verdict_number.ensures) c.put_number-b.ensures) in
    let three = next_field (pos a.number ∷ pos j.verdict ∷ []) (pos j.number) two (said (ap (λ n. field_bytes (pos n)) c.refusal_number.ensures) c.put_number-c.ensures) in
    let four = next_field (pos a.number ∷ pos j.verdict ∷ pos j.number ∷ []) (pos j.count) three (said (ap (λ n. field_bytes (pos n)) c.fact_count.ensures) c.put_number-d.ensures) in
    line-end (sheet_line a.number j) four c.put_byte.ensures
