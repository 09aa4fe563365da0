use Rattle.std.proofs.Common.{◌+◌, ◌*◌, arith, refl, rules}
use Rattle.std.proofs.lemmas.List.{places}
use Rattle.case_minimization.proofs.Laws.{patched_all}
use Rattle.case_minimization.proofs.put_back.Goals as goal

pub returns : goal.returns
returns c = let a = c.args in
    λ e lt. patched_all a.facts.now a.room.now _ a.n a.i (a.i * 5 + 5) lt (omega arith) (omega arith) refl
    (record {
      kept = record { same = search (rules, places); below = λ z h. search (rules, places); above = λ z h. search (rules, places) };
      each = λ z ge lt. search (rules, places);
    }) e
