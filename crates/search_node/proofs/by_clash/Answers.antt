use mathlib.Core.Path.{refl, sym, subst}
use Prim.Native.Nat.{◌+◌}
use native.Mathlib.Omega.{arith}
use Rattle.search_keys.specs.Clashes.{ClashAt}
use Rattle.search_node.specs.Node.{AtomsOf}
use Rattle.search_node.proofs.Keys.{clash-atoms, clash-few}
use borrow.Author.Rules.{rules}
use Rattle.search_node.proofs.by_clash.Goals as goal

pub returns-then-i-ge-TABLEAU_ATOMS-clause-open_state : goal.returns-then-i-ge-TABLEAU_ATOMS-clause-open_state
returns-then-i-ge-TABLEAU_ATOMS-clause-open_state c = let a = c.args in
    let from = c.start-from.ensures in
    let t = c.if-i-ge-TABLEAU_ATOMS.true in
    λ x r w h. let few = clash-few a.p.now x r a.goal a.ws.now a.clash.left a.clash.right h in absurd (omega arith)

pub returns-then-k-ge-TABLEAU_ATOMS-clause-open_state : goal.returns-then-k-ge-TABLEAU_ATOMS-clause-open_state
returns-then-k-ge-TABLEAU_ATOMS-clause-open_state c = let a = c.args in
    let from = c.start-from.ensures in
    let t = c.if-k-ge-TABLEAU_ATOMS.true in
    λ x r w h. let few = clash-few a.p.now x r a.goal a.ws.now a.clash.left a.clash.right h in absurd (omega arith)

pub returns-clause-open_state : goal.returns-clause-open_state
returns-clause-open_state c = let k = c.key_node in
    let from = c.start-from in
    let a = c.args in λ x r w h.
    let (of, clash) = clash-atoms a.p.now x r a.goal a.ws.now a.clash.left a.clash.right h in
    k.ensures.open_state a.goal x r w (subst (λ f. AtomsOf a.goal a.p.now (f + a.clash.left) (f + a.clash.right)) (sym from.ensures) of)
    (subst (λ f. ClashAt a.p.now a.ws.now (f + a.clash.left) (f + a.clash.right)) (sym from.ensures) clash)
