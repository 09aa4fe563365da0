use Rattle.search_step.proofs.Heads.{heads-yes, heads-wordly, looked-yes, looked-no}
use Rattle.search_task.specs.Task.{sheet_by}
use Rattle.tableau_layout.specs.Layout.{slot_end}
use native.Mathlib.Nat.{le_refl}
use mathlib.Core.Path.{sym, ◌∙◌}
use borrow.Author.Tests.{not-true, not-false}
use Rattle.search_chase.proofs.find.Goals as goal

pub returns-then-not-look-clause-found_by : goal.returns-then-not-look-clause-found_by
returns-then-not-look-clause-found_by c = λ x r long.
    let q = c.settle in
    let k = c.look in
    let h = heads-yes x (sheet_by c.args.goal x) q.result q.new.ws _ (not-false q.result c.if-not-settle.false-raw) (q.ensures x r c.args.goal (c.free.ensures.ws_after (le_refl slot_end))) in
    looked-no c.args.p.now x (sheet_by c.args.goal x) q.new.ws _ h k.result k.new.out c.args.out.now (not-true k.result c.if-not-look.true-raw)
    (k.ensures.looked_by x r (heads-wordly c.args.p.now x r c.args.goal q.new.ws _ (le_refl _) h))

pub returns-clause-found_by : goal.returns-clause-found_by
returns-clause-found_by c = let k = c.look in λ x r long.
    let q = c.settle in
    let h = heads-yes x (sheet_by c.args.goal x) q.result q.new.ws _ (not-false q.result c.if-not-settle.false-raw) (q.ensures x r c.args.goal (c.free.ensures.ws_after (le_refl slot_end))) in
    looked-yes c.args.p.now x (sheet_by c.args.goal x) q.new.ws k.result k.new.out _ (not-false k.result c.if-not-look.false-raw)
    (c.copy.ensures.out_after (long ∙ sym k.ensures.out_len))
    (k.ensures.looked_by x r (heads-wordly c.args.p.now x r c.args.goal q.new.ws _ (le_refl _) h))
