use Rattle.std.proofs.Common.{arith, rules, sym, ◌∙◌, ◌≡◌, length}
use Rattle.search_symmetry.proofs.Laws.{turn-there, turn-back, turn-later, turn-none}
use Rattle.search_symmetry.proofs.turn.Goals as goal

pub returns-then-v-a : goal.returns-then-v-a
returns-then-v-a c =
    let a = c.args in
    let l = c.loop-c in
    let long : length a.a.now ≡ 4 = search rules in
    let wide : length a.b.now ≡ 4 = search rules in
    sym (sym l.invariant ∙ turn-there a.a.now a.b.now a.v l.c long wide c.loop-c-test.true c.if-v-a.true)

pub returns-then-v-b : goal.returns-then-v-b
returns-then-v-b c =
    let a = c.args in
    let l = c.loop-c in
    let long : length a.a.now ≡ 4 = search rules in
    let wide : length a.b.now ≡ 4 = search rules in
    sym (sym l.invariant ∙ turn-back a.a.now a.b.now a.v l.c long wide c.loop-c-test.true c.if-v-a.false c.if-v-b.true)

pub loop-c-preserved : goal.loop-c-preserved
loop-c-preserved c =
    let a = c.args in
    let l = c.loop-c in
    let long : length a.a.now ≡ 4 = search rules in
    let wide : length a.b.now ≡ 4 = search rules in
    sym (turn-later a.a.now a.b.now a.v l.c long wide c.loop-c-test.true c.if-v-a.false c.if-v-b.false) ∙ l.invariant

pub returns : goal.returns
returns c =
    let a = c.args in
    let l = c.loop-c in
    let long : length a.a.now ≡ 4 = search rules in
    sym (turn-none a.a.now a.b.now a.v l.c long (let z = c.loop-c-test.false in omega arith)) ∙ l.invariant
