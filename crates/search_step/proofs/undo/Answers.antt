use mathlib.Core.Path.{◌≡◌, refl, sym, ◌∙◌}
use borrow.Author.Tests.{not-true}
use Rattle.search_step.proofs.Steps.{left_jump, left-row}
use borrow.Author.Rules.{rules}
use borrow.Author.Rules.{rules}
use Rattle.search_step.proofs.undo.Goals as goal

pub returns-then-not-meet-clause-undone_by : goal.returns-then-not-meet-clause-undone_by
returns-then-not-meet-clause-undone_by c = let a = c.args in
    let four = c.requires.0 in
    let four-r = c.requires.1 in
    let made = c.slots_of-changed in
    let l = c.learn in
    let f = c.forget in
    let b = c.release in
    let tl = l.new.sl in
    let tm = l.new.sm in
    let learned = l.ensures.memory_more c.requires.3 c.requires.4 in
    let forgot = f.ensures.memory_less (l.ensures.sl_len_unchanged ∙ c.requires.3) (l.ensures.sm_len_unchanged ∙ c.requires.4) in λ y was size linked us rs q rests memory.
    left_jump size linked us rs q made.result (made.ensures.0 four four-r) a.below.now c.requires.2 rests a.sl.now a.sm.now tl tm f.new.sl f.new.sm memory learned forgot
    b.new.ws (b.ensures four four-r was us rs (sym q.same) q.others)
    c.meet.result (not-true _ c.if-not-meet.true-raw) c.meet.ensures a.set.now c.put.new.set c.put.ensures

pub returns-clause-undone_by : goal.returns-clause-undone_by
returns-clause-undone_by c = let a = c.args in
    let four = c.requires.0 in
    let four-r = c.requires.1 in
    let made = c.slots_of-changed in
    let l = c.learn in
    let f = c.forget in
    let b = c.release in
    let less = c.subtract in
    let tl = l.new.sl in
    let tm = l.new.sm in
    let learned = l.ensures.memory_more c.requires.3 c.requires.4 in
    let forgot = f.ensures.memory_less (l.ensures.sl_len_unchanged ∙ c.requires.3) (l.ensures.sm_len_unchanged ∙ c.requires.4) in λ y was size linked us rs q rests memory.
    left-row size linked us rs q made.result (made.ensures.0 four four-r) a.below.now c.requires.2 rests a.sl.now a.sm.now tl tm f.new.sl f.new.sm memory learned forgot
    b.new.ws (b.ensures four four-r was us rs (sym q.same) q.others)
    less.new.set less.ensures a.set.now c.join.new.set c.join.ensures
