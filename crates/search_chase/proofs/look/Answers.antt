use mathlib.Core.Path.{refl, sym, subst}
use mathlib.Core.List.{List}
use Prim.Native.Nat.{ℕ}
use lib.ListN.{replicate}
use Rattle.case_verdicts.specs.Tableau.{Good}
use Rattle.search_nogoods.specs.Sizes.{memory_numbers, memory_words}
use Rattle.search_nogoods.proofs.Laws.{memory-empty}
use Rattle.search_task.specs.Task.{sheet_by}
use Rattle.search_node.specs.Node.{Wordly}
use Rattle.search_step.specs.Run.{Remembers, LookedBy}
use Rattle.search_chase.proofs.Ahead.{judged-node}
use Rattle.search_step.proofs.Heads.{looked-begun, looked-by}
use Rattle.search_chase.proofs.look.Goals as goal

pub returns-clause-looked_by : goal.returns-clause-looked_by
returns-clause-looked_by c = let a = c.args in
    let j = c.judge_state in
    let q = c.seek in λ x r w.
    let judged = j.ensures.judged_state x r w (memory-empty (replicate memory_numbers 0) (replicate memory_words 0) refl) c.requires.1 in
    subst (λ (v : List ℕ). LookedBy q.result x (sheet_by a.goal x) v q.new.out) judged.kept
    (looked-by a.p.now x (sheet_by a.goal x) j.new.ws q.result q.new.ws _ _ _ q.new.out
    (q.ensures.found_or_lost x r (looked-begun a.p.now x (sheet_by a.goal x) j.new.ws j.result j.new.set j.new.node j.new.out j.new.sl j.new.sm c.if-judge_state.false
    (subst (Wordly x (sheet_by a.goal x)) (sym judged.kept) w) (subst (λ (v : List ℕ). Remembers (Good (sheet_by a.goal x)) v j.new.sl j.new.sm) (sym judged.kept) judged.memory) (judged-node judged))))
