use Rattle.search_step.proofs.Heads.{settled-by}
use Rattle.search_task.proofs.Copies.{head-numbers}
use Rattle.search_links.specs.Steps.{RootValues, EquatedBy}
use Rattle.search_links.specs.Links.{linked_state}
use Rattle.case_verdicts.specs.Sheets.{top}
use Rattle.tableau_layout.specs.Layout.{view_block}
use mathlib.Core.List.{List}
use mathlib.Core.Path.{ap, ◌∙◌, subst}
use Prim.Native.Nat.{ℕ, ◌-◌}
use native.Mathlib.Omega.{arith}
use borrow.Author.Rules.{rules}
use lib.ListN.{length}
use Rattle.search_step.proofs.settle_row.Goals as goal

pub returns-then-v-ge-MOST_VIEWS : goal.returns-then-v-ge-MOST_VIEWS
returns-then-v-ge-MOST_VIEWS c = λ x r goal lt h.
    let v = c.view_at-v.ensures c.requires in
    let t = c.if-v-ge-MOST_VIEWS.true in
    let few = r.plan.views_few in
    let o = (r.plan.rows _ lt).view in
    absurd (omega arith)

pub returns : goal.returns
returns c = λ x r goal lt h.
    let a = c.args in
    let v = c.view_at-v.ensures c.requires in
    let u = c.head_of-u in
    let e = c.values_at-row.ensures c.requires in
    let q = c.equate in
    settled-by a.p.now x r goal a.ws.now a.i lt h q.result u.result q.new.ws
    (u.ensures ∙ head-numbers a.p.now x r a.i lt (linked_state top a.ws.now) _ _ (omega arith) (ap view_block v)) (ap length u.ensures)
    (subst (λ (l : List ℕ). RootValues top a.ws.now u.result → RootValues top a.ws.now l → EquatedBy q.result top a.ws.now q.new.ws u.result l) e (q.ensures (ap length u.ensures) (ap length e)))
