use Rattle.std.proofs.Common.{◌≡◌, ◌+◌, ◌-◌, ◌*◌, get_or, ap, ◌∙◌, arith}
use Rattle.case_minimization.proofs.Laws.{moved_all}
use Rattle.case_minimization.proofs.close_gap.Goals as goal

pub returns : goal.returns
returns c = let a = c.args in
    let w = c.copy_within.ensures in
    let moved = w.by_index in
    moved_all a.facts.now c.copy_within.new.self a.n a.i ((a.n - 1) * 5) c.requires.0 c.requires.2 (omega arith)
    (record {
      kept = record { same = w.len; below = λ z lt. moved.1 z 0 lt; above = λ z ge. moved.2 z 0 (omega arith) };
      each = λ z ge lt. moved.0 z 0 ge (omega arith) ∙ ap (λ y. get_or a.facts.now y 0) (let e : a.i * 5 + 5 + (z - a.i * 5) ≡ z + 5 = omega arith in e);
    })
