-- Each turn takes an alternative, looks into the state after it, and seeks below it.
use Rattle.std.proofs.Common.{arith, ◌∙◌, ℕ, ◌+◌, ◌*◌, ◌-◌, ◌<◌, ◌≤◌}
use Prim.Native.Nat.{min}
use mathlib.Core.Logic.{⊎_elim}
use Rattle.list_laws.proofs.Order.{less?}
use Rattle.sheet_format.specs.Limits.{most_rows}
use Rattle.search_chase.proofs.Ahead.{judged-taken, judged-node}
use Rattle.search_step.proofs.Onward.{begun-behind, onward-wordly, onward-found, onward-begun, onward-good, onward-failed}
use Rattle.search_chase.proofs.+seek.Goals as goal

-- of plain numbers, so that omega reads no more than these
fewer : (i k : ℕ) → 0 < i → i ≤ 2 * most_rows → (0 < k → (i < k) × (k ≤ 2 * most_rows)) → min (k * (2 * most_rows + 1)) (2 * most_rows + 1 - k) < min (i * (2 * most_rows + 1)) (2 * most_rows + 1 - i)
fewer i k lt le f = ⊎_elim (λ some. let m = f some in omega arith) (λ none. omega arith) (less? 0 k)

pub loop-i-init : goal.loop-i-init
loop-i-init t c =
    let v = c.advance.ensures in
    let s = c.requires in (
      v.ws_len_unchanged.0 ∙ s.0,
      v.ws_len_unchanged.2 ∙ s.1,
      v.ws_len_unchanged.3 ∙ s.2,
      s.3,
      v.ws_len_unchanged.1 ∙ c.none-below.ensures.same,
      v.ws_len_unchanged.4 ∙ s.4,
      λ some. (v.i_lt_i some).1,
      λ x r b. v.advanced x r _ b.wordly (begun-behind c.none-below.result b),
    )

pub judge_state-requires : goal.judge_state-requires
judge_state-requires t c = (c.loop-i.invariant.1, c.loop-i.invariant.2)

pub returns-then-judge_state-clause-found_or_lost : goal.returns-then-judge_state-clause-found_or_lost
returns-then-judge_state-clause-found_or_lost t c = λ x r b.
    let taken = (c.loop-i.invariant.7 x r b).on c.loop-i-test.true in
    let j = c.judge_state in
    let judged = j.ensures.judged_state x r (onward-wordly _ x r c.args.goal _ b.wordly _ _ _ _ _ _ taken) taken.memory c.loop-i.invariant.3 in
    onward-found _ x r c.args.goal _ b.wordly _ _ _ _ _ _ taken j.result j.new.set j.new.node j.new.out c.if-judge_state.true judged.judged

pub returns-then-judge_state-clause-ws_len : goal.returns-then-judge_state-clause-ws_len
returns-then-judge_state-clause-ws_len t c =
    let j = c.judge_state.ensures.ws_len_unchanged in
    let l = c.loop-i.invariant in
    (j.0 ∙ l.0, j.1 ∙ l.1, j.2 ∙ l.2, j.4 ∙ l.3, l.5)

pub seek-requires : goal.seek-requires
seek-requires t c =
    let j = c.judge_state.ensures.ws_len_unchanged in
    let l = c.loop-i.invariant in
    (omega (arith, c.decreases), (j.0 ∙ l.0, j.1 ∙ l.1, j.2 ∙ l.2, j.4 ∙ l.3, j.3 ∙ l.4))

pub returns-then-seek-clause-found_or_lost : goal.returns-then-seek-clause-found_or_lost
returns-then-seek-clause-found_or_lost t c = λ x r b.
    let taken = (c.loop-i.invariant.7 x r b).on c.loop-i-test.true in
    let j = c.judge_state in
    let judged = j.ensures.judged_state x r (onward-wordly _ x r c.args.goal _ b.wordly _ _ _ _ _ _ taken) taken.memory c.loop-i.invariant.3 in
    let now = judged-taken taken j.result j.new.ws j.new.set j.new.node j.new.out j.new.sl j.new.sm judged in
    let q = c.seek in
    let below = q.ensures.found_or_lost x r (onward-begun _ x r c.args.goal _ b.wordly _ _ _ _ _ _ now c.args.left b.room j.result j.new.set j.new.node j.new.out c.if-judge_state.false (judged-node judged)) in
    onward-good _ x r c.args.goal _ b.wordly _ _ _ _ _ _ now q.result q.new.ws q.new.set q.new.sl q.new.sm q.new.out c.if-seek.true below

pub returns-then-seek-clause-ws_len : goal.returns-then-seek-clause-ws_len
returns-then-seek-clause-ws_len t c =
    let q = c.seek.ensures.ws_len in
    (q.0, q.1, q.2, q.3, c.loop-i.invariant.5)

pub loop-i-smaller : goal.loop-i-smaller
loop-i-smaller t c = fewer _ _ c.loop-i-test.true (c.loop-i.invariant.6 c.loop-i-test.true) c.advance-in-loop-i.ensures.i_lt_i

pub loop-i-preserved : goal.loop-i-preserved
loop-i-preserved t c =
    let l = c.loop-i.invariant in
    let j = c.judge_state in
    let q = c.seek in
    let v = c.advance-in-loop-i.ensures in (
      v.ws_len_unchanged.0 ∙ q.ensures.ws_len.0,
      v.ws_len_unchanged.2 ∙ q.ensures.ws_len.1,
      v.ws_len_unchanged.3 ∙ q.ensures.ws_len.2,
      q.ensures.ws_len.3,
      v.ws_len_unchanged.1 ∙ q.ensures.ws_len.4,
      v.ws_len_unchanged.4 ∙ l.5,
      λ some. (v.i_lt_i some).1,
      λ x r b.
          let taken = (l.7 x r b).on c.loop-i-test.true in
          let judged = j.ensures.judged_state x r (onward-wordly _ x r c.args.goal _ b.wordly _ _ _ _ _ _ taken) taken.memory l.3 in
          let now = judged-taken taken j.result j.new.ws j.new.set j.new.node j.new.out j.new.sl j.new.sm judged in
          let below = q.ensures.found_or_lost x r (onward-begun _ x r c.args.goal _ b.wordly _ _ _ _ _ _ now c.args.left b.room j.result j.new.set j.new.node j.new.out c.if-judge_state.false (judged-node judged)) in
          v.advanced x r _ b.wordly (onward-failed _ x r c.args.goal _ b.wordly _ _ _ _ _ _ now q.result q.new.ws q.new.set q.new.sl q.new.sm q.new.out c.if-seek.false below),
    )

pub returns-clause-found_or_lost : goal.returns-clause-found_or_lost
returns-clause-found_or_lost t c = λ x r b. (c.loop-i.invariant.7 x r b).over (omega (arith, c.loop-i-test.false))

pub returns-clause-ws_len : goal.returns-clause-ws_len
returns-clause-ws_len t c =
    let l = c.loop-i.invariant in
    (l.0, l.1, l.2, l.3, l.5)
