-- A case that is found is handed over; else the search without the question tells "covered" from "no log".
use mathlib.Core.Path.{refl}
use native.Mathlib.Omega.{arith}
use Rattle.judge.proofs.Ways.{found-case, decided-case, decided-covered, decided-no-log}
use borrow.Author.Rules.{rules}
use Rattle.judge.proofs.decide.Goals as goal

pub returns-then-find : goal.returns-then-find
returns-then-find c = λ x r.
    let f = c.find in
    let h = c.hand_over-handed in
    decided-case c.args.p.now x r c.args.out.now c.requires h.new.out h.result.count h.result.missing
    (h.ensures.hands_over x r (found-case c.args.p.now x r c.args.out.now c.requires f.result f.new.out c.if-find.true (f.ensures.found_by x r refl)) (omega arith))

pub returns-then-find-2 : goal.returns-then-find-2
returns-then-find-2 c = λ x r.
    let f = c.find in
    let g = c.find-2 in
    decided-covered c.args.p.now x r c.args.out.now c.requires f.result g.result f.new.out g.new.out c.if-find.false c.if-find-2.true (f.ensures.found_by x r refl) (g.ensures.found_by x r f.auto.out) _ refl

pub returns : goal.returns
returns c = λ x r.
    let f = c.find in
    let g = c.find-2 in
    decided-no-log c.args.p.now x r c.args.out.now c.requires g.result g.new.out c.if-find-2.false (g.ensures.found_by x r f.auto.out) _ refl
