use mathlib.Core.Path.{◌≡◌, refl, sym, ap, ◌∙◌}
use mathlib.Core.List.{List, [], ◌∷◌, map}
use Prim.Native.Nat.{ℕ, zero, suc, ◌≤◌, ◌<◌, ◌-◌, ◌+◌}
use native.Mathlib.Omega.{arith}
use borrow.Author.Count.{below_none, below_more}
use borrow.Author.Rules.{rules}
use lib.ListN.{length, get_or, set, replicate, length-set, length-map, get_or-map}
use lib.Seq.{ext_get_or, get_or-set_same, get_or-set_other}
use Rattle.judge_result.specs.Answers.{Judgement}
use Rattle.judge_ends.specs.Sets.{most_sheets}
use Rattle.c_results.specs.Passed.{judgement_of}
use Rattle.c_results.specs.declared.Outcome.{Outcome}
use Rattle.std.specs.Prelude.{Option, Result}
use Rattle.sheet_format.specs.declared.Refusal.{Refusal}
use Rattle.judge_result.specs.declared.Verdict.{Verdict}
use Rattle.judge_ends.specs.Returns.{judgement_at, judgements_at}
use Rattle.c_results.proofs.at_places.Goals as goal
use Rattle.c_results.proofs.at_places.Invariants.{blank, PassedAt}

passed_first : (js : List Judgement) (o : Outcome) → PassedAt (replicate most_sheets o) js 0 → (i : ℕ) → i < 0 + 1 → PassedAt (replicate most_sheets o) js i
passed_first js o here = below_more (PassedAt (replicate most_sheets o) js) 0 (below_none (PassedAt (replicate most_sheets o) js)) here

passed-more : (all : List Outcome) (js : List Judgement) (k : ℕ) (o : Outcome) → k < length all → ((i : ℕ) → i < k → PassedAt all js i) → judgement_of o ≡ get_or js k (judgement_of blank) → (i : ℕ) → i < k + 1 → PassedAt (set all k o) js i
passed-more all js k o lt before here =
    below_more (PassedAt (set all k o) js) k
    (λ i l. ap judgement_of (get_or-set_other all k i o blank (λ e. omega arith)) ∙ before i l)
    (ap judgement_of (get_or-set_same all k o blank lt) ∙ here)

passed-whole : (all : List Outcome) (js : List Judgement) → length all ≡ length js → ((i : ℕ) → i < length all → PassedAt all js i) → map judgement_of all ≡ js
passed-whole all js same each =
    ext_get_or (judgement_of blank) (map judgement_of all) js (length-map all judgement_of ∙ same)
    (λ i lt. let l = length-map all judgement_of in get_or-map judgement_of all i blank ∙ each i (omega arith))

at : (ps : List (Option (Result Verdict Refusal))) (k : ℕ) (d : Option (Result Verdict Refusal)) → k < length ps → judgement_at (get_or ps k d) ≡ get_or (judgements_at ps) k (judgement_of blank)
at [] k d lt = absurd (omega arith)
at (p ∷ ps) zero d lt = refl
at (p ∷ ps) (suc k) d lt = at ps k d (omega arith)

pub loop-k-preserved : goal.loop-k-preserved
loop-k-preserved c =
    let l = c.loop-k in
    let h = l.invariant in (
      h.0,
      length-set l.all l.k c.at_place.result ∙ h.1,
      passed-more l.all (judgements_at c.args.places) l.k c.at_place.result (omega arith) h.2 (c.at_place.ensures ∙ at c.args.places l.k _ (omega arith)),
    )

pub returns : goal.returns
returns c = let js = judgements_at c.args.places in
    let l = length-map c.args.places judgement_at in
    passed-whole c.loop-k.all js (c.loop-k.invariant.1 ∙ sym c.loop-k.invariant.0 ∙ sym l) (λ i lt. c.loop-k.invariant.2 i (omega arith))
