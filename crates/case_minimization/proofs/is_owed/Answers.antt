use mathlib.Core.Bool.{Bool, true, false}
use mathlib.Core.Path.{subst}
use mathlib.Core.List.{List}
use Prim.Native.Nat.{ℕ, ◌+◌, ◌*◌}
use native.Mathlib.Omega.{arith}
use lib.ListN.{get_or}
use borrow.Author.Tests.{not-true, not-false}
use Rattle.tableau_parts.specs.Walks.{four_of}
use Rattle.case_minimization.specs.Parts.{FindsBy}
use Rattle.case_minimization.proofs.Laws.{owed-by}
use Rattle.case_minimization.proofs.is_owed.Goals as goal

pub returns-then-not-is_parent : goal.returns-then-not-is_parent
returns-then-not-is_parent c = let a = c.args in
    let f = c.is_parent in
    λ long some s.
    let z = f.ensures long (not-true f.result c.if-not-is_parent.true-raw) (get_or a.rest.now (s.0 * 5) 0) s.2.0 in
    absurd (omega arith)

pub returns : goal.returns
returns c = let a = c.args in
    let v = c.values-row in
    let f = c.has_owing in
    let g = c.has_row in
    let relation = get_or a.facts.now (a.i * 5) 0 in
    let row = four_of a.facts.now (a.i * 5 + 1) in
    λ long. owed-by a.p.now g.result a.facts.now a.i a.rest.now (let z = c.if-relation-eq0.false in omega arith)
    (subst (λ (b : Bool). FindsBy a.p.now b true a.rest.now relation row) (not-false f.result c.if-not-has_owing.false-raw) (subst (λ (r : List ℕ). FindsBy a.p.now f.result true a.rest.now relation r) v.ensures f.ensures))
    (subst (λ (r : List ℕ). FindsBy a.p.now g.result false a.rest.now relation r) v.ensures (g.ensures a.p.now))
