use mathlib.Core.Bool.{true≢false}
use mathlib.Core.Logic.{⊎_elim}
use mathlib.Core.Path.{◌≡◌, sym}
use Prim.Native.Nat.{ℕ, ◌≤◌, ◌<◌, ◌-◌}
use native.Mathlib.Omega.{arith}
use borrow.Author.Count.{below_more}
use borrow.Author.Tests.{not-false}
use lib.ListN.{replicate, get_or-replicate}
use Rattle.query_layout.specs.Layout.{names}
use Rattle.query_join.specs.Joins.{Becomes}
use Rattle.query_dominance.specs.Dominance.{Replaced}
use Rattle.query_dominance.proofs.Laws.{unfit}
use borrow.Author.Rules.{rules}
use Rattle.query_dominance.proofs.all_replaced.Goals as goal
use Rattle.query_dominance.proofs.all_replaced.Goals.{else-fit_of-eq-FIT, then-fit_of-eq-FIT+else-not-is_replaced}

pub loop-i-preserved : goal.loop-i-preserved
loop-i-preserved c = let l = c.loop-i in
    let a = c.args in
    let marks = c.only-set in
    let f = c.fit_of in
    below_more (λ k. (v : ℕ → ℕ) → v a.y ≡ a.a → Becomes a.blk.now a.facts.now v a.j k → Replaced a.blk.now a.facts.now a.j a.y a.b k) l.i l.invariant
    (elim c.if-fit_of-eq-FIT.branch [ then-fit_of-eq-FIT+else-not-is_replaced w ↦ λ v e b. w.is_replaced.ensures (not-false w.is_replaced.result w.if-not-is_replaced.false-raw) | else-fit_of-eq-FIT w ↦ λ v e b. absurd (unfit a.blk.now a.facts.now marks.result (replicate names a.a) a.j l.i a.y a.a f.result marks.ensures (get_or-replicate names a.y a.a 0 (search rules)) (f.ensures (search rules) (search rules)) w.if-fit_of-eq-FIT.false v e b) ])

pub returns : goal.returns
returns c = let l = c.loop-i in λ _. record { replaced = λ v e i lt b. l.invariant i (omega arith) v e b }
