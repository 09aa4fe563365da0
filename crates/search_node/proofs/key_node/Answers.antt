use mathlib.Core.List.{List}
use mathlib.Core.Path.{sym, ◌∙◌, subst}
use Prim.Native.Nat.{ℕ}
use native.Mathlib.Omega.{arith}
use Rattle.case_verdicts.specs.Tableau.{Good}
use Rattle.search_task.specs.Task.{sheet_by}
use Rattle.search_node.specs.Node.{OpenState}
use Rattle.search_node.proofs.Terms.{term-place}
use Rattle.search_node.proofs.Keys.{key_open}
use borrow.Author.Rules.{rules}
use Rattle.search_node.proofs.key_node.Goals as goal

pub returns-clause-open_state : goal.returns-clause-open_state
returns-clause-open_state c = let k = c.pair_node in
    let s = c.show-rows in
    let z = c.clear in
    let a = c.args in λ goal x r w of clash.
    let few = r.plan.few in
    let li = of.left.1 in
    let lk = of.right.1 in
    subst (λ (n : List ℕ). OpenState a.p.now x (Good (sheet_by goal x)) a.ws.now s.new.set n) (sym k.ensures)
    (key_open a.p.now x r goal a.ws.now w a.i a.k of clash s.new.set s.result.left s.result.right
    (s.ensures.clash_shown (omega arith) (omega arith) (term-place a.p.now x r a.i li) (term-place a.p.now x r a.k lk)))
